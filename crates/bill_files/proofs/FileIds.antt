-- The Record IDs of the files' FHs can be told from the files' TH and OC alone.
--     bill_of_file      a TH or OC carries its file's sender and the Record ID of its FH
--     some_bill         a file that passes has a TH or OC: by test 4 the third line is one
-- Assumes nothing.
use mathlib.Core.Path.{◌≡◌, refl, sym, ap, ◌∙◌, subst}
use mathlib.Core.Logic.{◌⊎◌, inl, inr, ⊎_elim}
use mathlib.Core.Bool.{Bool, true, false, cond, ◌&&◌, ◌||◌, false≢true}
use mathlib.Core.List.{List, [], ◌∷◌}
use Prim.Native.Nat.{ℕ, zero, suc, ◌+◌, ◌-◌, ◌<◌}
use native.Mathlib.Omega.{arith}
use native.Mathlib.Decide.{dec_lt}
use borrow.Author.Tests.{eq-eqb}
use lib.Dec.{eqb, ltb}
use lib.ListN.{length, get_or, length-map}
use Rattle.lists.specs.Selections.{filter}
use Rattle.tables.specs.Types.{FH, SH, TH, OC, FT, follow_table, may_follow}
use Rattle.records.specs.Records.{type_in}
use Rattle.format.specs.Format.{line_at}
use Rattle.bill_files.specs.Accepted.{Bill, is_period, is_bill, bill_in, bills_in, bill_file}
use Rattle.bill_files.specs.Passing.{Passing}
use Rattle.bill_files.proofs.Accepted.{every_bill}
use Rattle.lists.proofs.Selections.{either}

pub bill_of_file : (lines : List (List ℕ)) (other : Bill) (k : ℕ) → k < length (bills_in lines)
    → ((get_or (bills_in lines) k other).sender ≡ (bill_file lines).sender) × ((get_or (bills_in lines) k other).file_id ≡ (bill_file lines).record_id)
unfolding bill_in bill_file
bill_of_file lines = every_bill (λ b. (b.sender ≡ (bill_file lines).sender) × (b.file_id ≡ (bill_file lines).record_id)) lines (λ i h e. (refl, refl))

-- ---- test 4: "FH: SH. SH: TH, OC."
in_row : (previous t : ℕ) → may_follow previous t ≡ true → get_or (get_or follow_table previous []) t false ≡ true
unfolding may_follow
in_row previous t e = go (ltb previous 9 && ltb t 9) e
  where
    go : (b : Bool) → cond b (get_or (get_or follow_table previous []) t false) false ≡ true → get_or (get_or follow_table previous []) t false ≡ true
    go true e = e
    go false e = absurd (false≢true e)

after_FH : (t : ℕ) → get_or (get_or follow_table FH []) t false ≡ true → t ≡ SH
after_FH zero e = absurd (false≢true e)
after_FH (suc zero) e = refl
after_FH (suc (suc zero)) e = absurd (false≢true e)
after_FH (suc (suc (suc zero))) e = absurd (false≢true e)
after_FH (suc (suc (suc (suc zero)))) e = absurd (false≢true e)
after_FH (suc (suc (suc (suc (suc zero))))) e = absurd (false≢true e)
after_FH (suc (suc (suc (suc (suc (suc zero)))))) e = absurd (false≢true e)
after_FH (suc (suc (suc (suc (suc (suc (suc zero))))))) e = absurd (false≢true e)
after_FH (suc (suc (suc (suc (suc (suc (suc (suc zero)))))))) e = absurd (false≢true e)
after_FH (suc (suc (suc (suc (suc (suc (suc (suc (suc n))))))))) e = absurd (false≢true e)

after_SH : (t : ℕ) → get_or (get_or follow_table SH []) t false ≡ true → (t ≡ TH) ⊎ (t ≡ OC)
after_SH zero e = absurd (false≢true e)
after_SH (suc zero) e = absurd (false≢true e)
after_SH (suc (suc zero)) e = inl refl
after_SH (suc (suc (suc zero))) e = absurd (false≢true e)
after_SH (suc (suc (suc (suc zero)))) e = absurd (false≢true e)
after_SH (suc (suc (suc (suc (suc zero))))) e = absurd (false≢true e)
after_SH (suc (suc (suc (suc (suc (suc zero)))))) e = absurd (false≢true e)
after_SH (suc (suc (suc (suc (suc (suc (suc zero))))))) e = inr refl
after_SH (suc (suc (suc (suc (suc (suc (suc (suc zero)))))))) e = absurd (false≢true e)
after_SH (suc (suc (suc (suc (suc (suc (suc (suc (suc n))))))))) e = absurd (false≢true e)

-- a line that is picked
some_picked : (lines : List (List ℕ)) (i : ℕ) → i < length lines → is_bill (line_at lines i) ≡ true → 0 < length (filter is_bill lines)
some_picked [] i h e = absurd (omega arith)
some_picked (line ∷ lines) zero h e = ap_less (sym (ap (λ (b : Bool). length (cond b (line ∷ filter is_bill lines) (filter is_bill lines))) e))
  where
    ap_less : {n : ℕ} → suc (length (filter is_bill lines)) ≡ n → 0 < n
    ap_less q = omega arith
some_picked (line ∷ lines) (suc i) h e = go (is_bill line) (some_picked lines i (omega arith) e)
  where
    go : (b : Bool) → 0 < length (filter is_bill lines) → 0 < length (cond b (line ∷ filter is_bill lines) (filter is_bill lines))
    go true k = omega arith
    go false k = k

module _ {retailer : ℕ} {distributors : List ℕ} {lines : List (List ℕ)} (p : Passing retailer distributors lines) where
  -- a line that isn't FT isn't the last
  goes_on : (i t : ℕ) → i < length lines → type_in (line_at lines i) ≡ t → (t ≡ FT → ⊥) → i + 1 < length lines
  goes_on i t h type other = go (dec_lt (i + 1) (length lines))
    where
      go : Dec (i + 1 < length lines) → i + 1 < length lines
      go (yes k) = k
      go (no k) =
          let last : length lines - 1 ≡ i = omega (arith, k, h) in
          absurd (other (sym type ∙ ap (λ (j : ℕ). type_in (line_at lines j)) (sym last) ∙ p.ordered.last))

  third : (2 < length lines) × ((type_in (line_at lines 2) ≡ TH) ⊎ (type_in (line_at lines 2) ≡ OC))
  third =
      let first = p.ordered.first in
      let second = goes_on 0 FH p.some_line first (λ e. omega (arith, e)) in
      let sh = after_FH (type_in (line_at lines 1)) (in_row FH (type_in (line_at lines 1)) (subst (λ (t : ℕ). may_follow t (type_in (line_at lines 1)) ≡ true) first (p.ordered.follows 0 second))) in
      let more = goes_on 1 SH second sh (λ e. omega (arith, e)) in
      (more, after_SH (type_in (line_at lines 2)) (in_row SH (type_in (line_at lines 2)) (subst (λ (t : ℕ). may_follow t (type_in (line_at lines 2)) ≡ true) sh (p.ordered.follows 1 more))))

  pub some_bill : 0 < length (bills_in lines)
  unfolding bills_in
  some_bill = omega (arith, length-map (filter is_bill lines) (bill_in (line_at lines 0)), some_picked lines 2 third.0 (⊎_elim period charge third.1))
    where
      period : type_in (line_at lines 2) ≡ TH → is_bill (line_at lines 2) ≡ true
      period e = ap (λ (b : Bool). b || eqb (type_in (line_at lines 2)) OC) (eq-eqb (type_in (line_at lines 2)) TH e)

      charge : type_in (line_at lines 2) ≡ OC → is_bill (line_at lines 2) ≡ true
      charge e = either (is_period (line_at lines 2)) (eqb (type_in (line_at lines 2)) OC) (eq-eqb (type_in (line_at lines 2)) OC e)
