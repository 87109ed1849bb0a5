-- A run of entries, with an entry written after those in use.
--     held_bound                 the count of the held entries stays within that of the used ones
--     chain_room_same            columns of the same lengths have the same room
--     by_site_next               the chains by site, with that entry in them
-- Assumes nothing.
use mathlib.Core.Path.{◌≡◌, sym, ap, subst, ◌∙◌}
use mathlib.Core.Bool.{Bool, true, false, cond}
use mathlib.Core.List.{List}
use Prim.Native.Nat.{ℕ, ◌+◌, ◌≤◌, ◌<◌}
use native.Mathlib.Nat.{le_refl}
use native.Mathlib.Omega.{arith}
use lib.ListN.{length, set, take, length-set}
use lib.Seq.{get_or-set_same, get_or-set_other, get_or-take, length-take-le}
use Rattle.entries.specs.declared.Entry.{Entry}
use Rattle.entries.specs.Entries.{blank, entry_of}
use Rattle.buckets.specs.InsideChains.{ChainRoom, Chained, Pushed}
use Rattle.buckets.proofs.Chains.{chained_same}
use Rattle.used_entries.specs.InsideSited.{site_in, BySite}

one_at_most : (t : Bool) → cond t 1 0 ≤ 1
one_at_most true = le_refl 1
one_at_most false = omega arith

pub held_bound : (used held used' held' : ℕ) (t b : Bool) → held ≤ used → used' ≡ cond t used (used + 1) → held' ≡ cond t held (held + cond b 1 0) → held' ≤ used'
held_bound used held used' held' true b h u l = omega arith
held_bound used held used' held' false b h u l = omega (arith, one_at_most b)

pub chain_room_same : {n n' : ℕ} {heads heads' links links' : List ℕ} → n' ≡ n → length heads' ≡ length heads → length links' ≡ length links → ChainRoom n heads links → ChainRoom n' heads' links'
chain_room_same same-places same-heads same-links room = record { some = omega arith; bounded = omega arith; linkable = omega arith; few = omega arith }

-- with an entry written after those in use, and put into the chain of its site
pub by_site_next : (run run' : List Entry) (used : ℕ) (o : Entry) (heads links heads' links' : List ℕ) → used < length run → run' ≡ set run used o
    → BySite (take used run) heads links → Pushed o.site used heads links heads' links' → BySite (take (used + 1) run') heads' links'
by_site_next run run' used o heads links heads' links' h wrote C P =
    subst (λ (n : ℕ). Chained (site_in (take (used + 1) run')) n heads' links') (sym (length-take-le (used + 1) run' (omega (arith, long))))
    (P.chains (site_in (take (used + 1) run')) (ap (λ (e : Entry). e.site) here)
    (chained_same (site_in (take used run)) (site_in (take (used + 1) run')) used heads links (λ p l. ap (λ (e : Entry). e.site) (same p l))
    (subst (λ (n : ℕ). Chained (site_in (take used run)) n heads links) (length-take-le used run (omega arith)) C)))
  where
    long : length run' ≡ length run
    long = ap length wrote ∙ length-set run used o

    here : entry_of (take (used + 1) run') used ≡ o
    here = get_or-take (used + 1) run' used blank (omega arith) ∙ ap (λ (l : List Entry). entry_of l used) wrote ∙ get_or-set_same run used o blank h

    same : (p : ℕ) → p < used → entry_of (take (used + 1) run') p ≡ entry_of (take used run) p
    same p l =
        get_or-take (used + 1) run' p blank (omega arith) ∙ ap (λ (k : List Entry). entry_of k p) wrote
        ∙ get_or-set_other run used p o blank (λ z. omega arith) ∙ sym (get_or-take used run p blank l)
