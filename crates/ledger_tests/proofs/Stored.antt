-- Test 102 of the records: `any_source`, a test of their entries over what is read of a file, and over its TH and OC.
-- Assumes nothing.
use mathlib.Core.Path.{◌≡◌, refl, sym, ap, ◌∙◌}
use mathlib.Core.Bool.{Bool, ◌||◌}
use mathlib.Core.List.{List, [], ◌∷◌, map}
use Prim.Native.Nat.{◌<◌}
use native.Mathlib.Omega.{arith}
use lib.ListN.{length, length-map}
use lib.Seq.{ext_get_or}
use Rattle.std.specs.List.{list_any}
use Rattle.lists.specs.Selections.{any}
use Rattle.lists.proofs.Selections.{any_map}
use Rattle.std.proofs.lemmas.List.{get_or-map}
use Rattle.bill_files.specs.Accepted.{Bill}
use Rattle.entries.specs.declared.Entry.{Entry}
use Rattle.entries.specs.Entries.{blank}
use Rattle.booking.specs.Acceptable.{no_bill}
use Rattle.file_bills.specs.declared.SourceBill.{SourceBill}
use Rattle.file_bills.specs.InsideBills.{source_entry, blank_source, Source}

same_any : {A : Type 0} (p : A → Bool) (xs : List A) → list_any p xs ≡ any p xs
same_any p [] = refl
same_any p (x ∷ xs) = ap (λ (t : Bool). p x || t) (same_any p xs)

module _ {bills : List Bill} {sources : List SourceBill} (S : Source bills sources) where
  same_entries : map (λ (s : SourceBill). s.entry) sources ≡ map source_entry bills
  same_entries =
      ext_get_or blank (map (λ (s : SourceBill). s.entry) sources) (map source_entry bills) (simp length-map S.count)
      (λ k h.
      let low : k < length bills = omega (arith, h, length-map sources (λ (s : SourceBill). s.entry), S.count) in
      get_or-map (λ (s : SourceBill). s.entry) sources k blank_source blank (omega (arith, S.count)) ∙ S.each k low ∙ sym (get_or-map source_entry bills k no_bill blank low))

  pub any_source : (p : Entry → Bool) → list_any (λ (s : SourceBill). p s.entry) sources ≡ any (λ (b : Bill). p (source_entry b)) bills
  any_source p =
      same_any (λ (s : SourceBill). p s.entry) sources ∙ sym (any_map p (λ (s : SourceBill). s.entry) sources) ∙ ap (any p) same_entries ∙ any_map p source_entry bills
