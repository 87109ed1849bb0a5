-- What test 39 says of the entry that a cancel names, in plain terms.
--     names_means                       the test says what the record `Names` says
--     names_standing, names_pairs       the entry is live or held, and with the opposite amounts it pairs with the cancel once it is cancelled
-- Assumes nothing.
use mathlib.Core.Path.{◌≡◌, refl, ap}
use mathlib.Core.Logic.{◌↔◌, ◌⊎◌, inl, inr, ⊎_elim}
use mathlib.Core.Bool.{Bool, true, false, ◌&&◌, ◌||◌, false≢true}
use Rattle.std.specs.Prelude.{Option, Some, None}
use Prim.Native.Nat.{ℕ, ◌≤◌}
use native.Mathlib.Omega.{arith}
use borrow.Author.Tests.{eqb-true, eq-eqb}
use Rattle.lists.proofs.Selections.{and_left, and_right, and_both, either}
use Rattle.bill_files.specs.Accepted.{Bill}
use Rattle.entries.specs.declared.Entry.{Entry}
use Rattle.entries.specs.Entries.{is_live, is_held, in_state}
use Rattle.soundness.specs.Sound.{same_subject, opposite}
use Rattle.soundness.proofs.Meaning.{alike_means, opposite_means}
use Rattle.booking.specs.Booking.{entry, id_or_zero, refers_to, is_live_or_held, names_entry}
use Rattle.booking.specs.Acceptable.{Names}
use Rattle.booking.specs.InsideKept.{Paired}
use Rattle.booking.proofs.Opposites.{opposite_of_lem}

refers_means : (r : Option ℕ) (n : ℕ) → (refers_to r n ≡ true) ↔ (r ≡ Some n)
refers_means None n = (λ t. absurd (false≢true t), λ e. let z : ◌≡◌ {A = ℕ} 0 1 = cc in absurd (omega arith))
refers_means (Some m) n = (λ t. ap Some (eqb-true m n t), λ e. eq-eqb m n (cc))

standing_means : (e : Entry) → (is_live_or_held e ≡ true) ↔ ((e.state ≡ 1) ⊎ (e.state ≡ 2))
standing_means e = (go (is_live e) (is_held e) refl refl, λ h. ⊎_elim live held h)
  where
    go : (a b : Bool) → is_live e ≡ a → is_held e ≡ b → (a || b) ≡ true → (e.state ≡ 1) ⊎ (e.state ≡ 2)
    go true b p q t = inl (eqb-true e.state 1 p)
    go false true p q t = inr (eqb-true e.state 2 q)
    go false false p q t = absurd (false≢true t)

    live : e.state ≡ 1 → is_live_or_held e ≡ true
    live s = ap (λ (b : Bool). b || is_held e) (eq-eqb e.state 1 s)

    held : e.state ≡ 2 → is_live_or_held e ≡ true
    held s = either (is_live e) (is_held e) (eq-eqb e.state 2 s)

pub names_means : (c : Bill) (e : Entry) → (names_entry c e ≡ true) ↔ Names c e
unfolding names_entry
names_means c e = (
  λ t.
      let first = and_left (is_live_or_held e && refers_to c.reference e.id) (same_subject (entry c 4) e) t in
      let alike = (alike_means (entry c 4) e).0 (and_right (is_live_or_held e && refers_to c.reference e.id) (same_subject (entry c 4) e) t) in
      record {
        reference = (refers_means c.reference e.id).0 (and_right (is_live_or_held e) (refers_to c.reference e.id) first);
        sender = alike.sender;
        commodity = alike.commodity;
        kind = alike.kind;
        site = alike.site;
        start = alike.start;
        end = alike.end;
        live_or_held = (standing_means e).0 (and_left (is_live_or_held e) (refers_to c.reference e.id) first);
      },
  λ n.
      and_both (is_live_or_held e && refers_to c.reference e.id) (same_subject (entry c 4) e)
      (and_both (is_live_or_held e) (refers_to c.reference e.id) ((standing_means e).1 n.live_or_held) ((refers_means c.reference e.id).1 n.reference))
      ((alike_means (entry c 4) e).1
      (record { sender = n.sender; commodity = n.commodity; kind = n.kind; site = n.site; start = n.start; end = n.end })),
)

module _ (c : Bill) (e : Entry) (t : names_entry c e ≡ true) where
  named : Names c e
  named = (names_means c e).0 t

  pub names_standing : (1 ≤ e.state) × (e.state ≤ 2)
  names_standing = ⊎_elim (λ s. (omega arith, omega arith)) (λ s. (omega arith, omega arith)) named.live_or_held

  pub names_pairs : opposite (entry c 4) e ≡ true → Paired (entry c 4) (in_state e 3)
  names_pairs o =
      let opposites = (opposite_means (entry c 4) e).0 o in
      record {
        cancel = refl;
        cancelled = refl;
        reference = ap id_or_zero named.reference;
        sender = named.sender;
        commodity = named.commodity;
        kind = named.kind;
        site = named.site;
        start = named.start;
        end = named.end;
        charge = opposite_of_lem c.charge e.charge opposites.charge;
        usage = opposite_of_lem c.usage e.usage opposites.usage;
      }
