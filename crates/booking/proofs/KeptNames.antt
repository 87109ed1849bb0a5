-- The entry that a cancel names: the place where it stands, and that entries appended later don't change it.
-- Assumes nothing.
use mathlib.Core.Path.{◌≡◌, sym, ap, ◌∙◌, subst⁻¹}
use mathlib.Core.Bool.{Bool, true, false, cond, false≢true}
use Rattle.std.specs.Prelude.{Some}
use mathlib.Core.List.{List, [], ◌∷◌, ◌++◌}
use Prim.Native.Nat.{ℕ, suc, ◌<◌}
use native.Mathlib.Omega.{arith}
use lib.ListN.{length, set}
use Rattle.lists.proofs.Selections.{cases}
use Rattle.bill_files.specs.Accepted.{Bill}
use Rattle.entries.specs.declared.Entry.{Entry}
use Rattle.entries.specs.Entries.{entry_of, in_state}
use Rattle.soundness.specs.Sound.{opposite}
use Rattle.booking.specs.Booking.{entry, names_entry, named_entry, cancel_named}
use Rattle.booking.specs.InsidePasses.{is_opposed, AllNamed}

-- the place of the named entry, which has the opposite amounts, and the ledger with it in state 3
pub record NamedAt (c : Bill) (l : List Entry) : Type 0 where
  pub place : ℕ
  pub inside : place < length l
  pub names : names_entry c (entry_of l place) ≡ true
  pub opposes : opposite (entry c 4) (entry_of l place) ≡ true
  pub cancels : cancel_named c l ≡ set l place (in_state (entry_of l place) 3)

-- the first entry is named, or not
first_named : (c : Bill) (e : Entry) (l : List Entry) → names_entry c e ≡ true → is_opposed c (named_entry c (e ∷ l)) ≡ opposite (entry c 4) e
first_named c e l n = ap (λ (b : Bool). is_opposed c (cond b (Some e) (named_entry c l))) n

later_named : (c : Bill) (e : Entry) (l : List Entry) → names_entry c e ≡ false → is_opposed c (named_entry c (e ∷ l)) ≡ is_opposed c (named_entry c l)
later_named c e l n = ap (λ (b : Bool). is_opposed c (cond b (Some e) (named_entry c l))) n

pub named_at : (c : Bill) (l : List Entry) → is_opposed c (named_entry c l) ≡ true → NamedAt c l
named_at c [] t = absurd (false≢true t)
named_at c (e ∷ l) t = cases (names_entry c e)
    (λ n. record { place = 0; inside = omega arith; names = n; opposes = sym (first_named c e l n) ∙ t; cancels = rw n })
    (λ n. later n (named_at c l (sym (later_named c e l n) ∙ t)))
  where
    later : names_entry c e ≡ false → NamedAt c l → NamedAt c (e ∷ l)
    later n r =
        record {
          place = suc r.place;
          inside = omega (arith, r.inside);
          names = r.names;
          opposes = r.opposes;
          cancels = rw n (ap (λ (m : List Entry). e ∷ m) r.cancels);
        }

-- ---- entries appended
named_append : (c : Bill) (l m : List Entry) → is_opposed c (named_entry c l) ≡ true → is_opposed c (named_entry c (l ++ m)) ≡ true
named_append c [] m t = absurd (false≢true t)
named_append c (e ∷ l) m t = cases (names_entry c e)
    (λ n. first_named c e (l ++ m) n ∙ sym (first_named c e l n) ∙ t)
    (λ n. later_named c e (l ++ m) n ∙ named_append c l m (sym (later_named c e l n) ∙ t))

cancel_append : (c : Bill) (l m : List Entry) → is_opposed c (named_entry c l) ≡ true → cancel_named c (l ++ m) ≡ cancel_named c l ++ m
cancel_append c [] m t = absurd (false≢true t)
cancel_append c (e ∷ l) m t = cases (names_entry c e)
    (λ n. rw n)
    (λ n. rw n (ap (λ (r : List Entry). e ∷ r) (cancel_append c l m (sym (later_named c e l n) ∙ t))))

pub all_named_append : (l m : List Entry) (cs : List Bill) → AllNamed l cs → AllNamed (l ++ m) cs
all_named_append l m [] a = tt
all_named_append l m (c ∷ cs) a = (
  named_append c l m a.0,
  subst⁻¹ (λ (r : List Entry). AllNamed r cs) (cancel_append c l m a.0) (all_named_append (cancel_named c l) m cs a.1),
)
