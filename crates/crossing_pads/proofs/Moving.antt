-- How a pad's load moves as the code puts it together: the pad's number after the file's tests, then the factors and the transposed solve of its unit
-- column; and what is known of the numbers. By the case of the outcome. Assumes nothing.
use mathlib.Core.Path.{◌≡◌, refl, sym, ap, ◌∙◌}
use mathlib.Core.Bool.{Bool, true, false}
use mathlib.Core.List.{List, [], ◌∷◌}
use Prim.Native.Nat.{ℕ, zero, suc, ◌-◌, ◌≤◌, ◌<◌}
use native.Mathlib.Nat.{le_of_suc-le-suc, not-suc-le-zero}
use native.Mathlib.Omega.{arith}
use borrow.Author.Tests.{eqb-false, ltb-false}
use lib.Dec.{eqb, ltb}
use lib.ListN.{set, take, replicate}
use lib.Seq.{take-set-lt}
use Rattle.numbers.specs.Numbers.{zero64, one64}
use Rattle.numbers.specs.Column.{Column}
use Rattle.finite.specs.Finite.{all_finite}
use Rattle.std.proofs.Common.{Result, Err}
use Rattle.refusals.specs.declared.Refusal.{Refusal}
use Rattle.refusals.specs.Outcome.{Outcome, done, refused, number, first_holding, tested, and_then}
use Rattle.refusals.proofs.Outcomes.{never_0, tested_some, tested_cases}
use Rattle.refusals.proofs.Tests.{neither}
use Rattle.factors.specs.declared.Record.{Record}
use Rattle.from_factors.specs.Solving.{unit_column}
use Rattle.panel_file.specs.File.{pads_of}
use Rattle.panel_file.specs.Reading.{file_tests, file_refusal}
use Rattle.refusals.proofs.Cases.{first_among, first_behind, refused_before, passed_before, tested_done, tested_refused, then_done, then_refused}
use Rattle.panel_file.proofs.Reading.{file_numbered}
use Rattle.crossing_pads.specs.declared.Order.{Order}
use Rattle.crossing.specs.Below.{Packed, packed_in, solution_by}
use Rattle.crossing.specs.Factors.{factors_in, toss_ups_in, fronted}
use Rattle.crossing_pads.specs.Ordering.{pads_ordered}
use Rattle.crossing_pads.specs.Moving.{no_pad, moves_refusal, moves_of, moving}
use Rattle.crossing.proofs.Below.{solution_finite, solution_few}
use Rattle.crossing.proofs.Factors.{fronted_kept, factors_few, factors_size}

-- ---- the pad's number and its unit column

-- inside: from 1 to n
pub pad_inside : (n pad : ℕ) → no_pad n pad ≡ false → (1 ≤ pad) × (pad ≤ n)
pad_inside n pad e =
    let t = neither (eqb pad 0) (ltb n pad) e in
    let some = eqb-false pad 0 t.0 in
    let most : pad ≤ n = ltb-false n pad t.1 in
    (omega (arith, some), most)

taken_zeros : (k m : ℕ) → k ≤ m → take k (replicate m zero64) ≡ replicate k zero64
taken_zeros zero m h = refl
taken_zeros (suc k) zero h = absurd (not-suc-le-zero h)
taken_zeros (suc k) (suc m) h = ap (λ (t : Column). zero64 ∷ t) (taken_zeros k m (le_of_suc-le-suc h))

-- the front of a store of zeros with a one in its place
pub unit_front : (n j : ℕ) → n ≤ 64 → j < n → take n (set (replicate 64 zero64) j one64) ≡ unit_column n j
unfolding unit_column
unit_front n j h l = take-set-lt n (replicate 64 zero64) j one64 l ∙ ap (λ (t : Column). set t j one64) (taken_zeros n 64 h)

-- ---- a file and a pad

module _ (bytes : List ℕ) (pad : ℕ) where
  abbrev n : ℕ
  n = pads_of bytes

  abbrev next : Packed → Outcome Column
  next f = solution_by true f (unit_column n (pad - 1))

  behind : moves_refusal bytes pad ≡ tested (file_refusal bytes) (λ k. k) (first_holding ((1, no_pad n pad) ∷ []))
  unfolding moves_refusal file_refusal
  behind = first_behind (file_tests true bytes) ((1, no_pad n pad) ∷ []) (file_numbered true bytes)

  moves_among : (P : ℕ → Type 0) → P 0 → P 8 → P 1 → P 3 → P 5 → P (moves_refusal bytes pad)
  unfolding moves_refusal file_tests
  moves_among P none eight one three five = first_among P _ none (eight, (one, (three, (five, (one, tt)))))

  -- a pad of the crossing: nothing is refused but by the file
  module _ (there : no_pad n pad ≡ false) where
    same_refusal : moves_refusal bytes pad ≡ file_refusal bytes
    unfolding first_holding
    same_refusal =
        behind ∙ rw there (tested_cases (file_refusal bytes) (λ k. k) 0 (λ x. x ≡ file_refusal bytes) (λ z. sym z) (λ _. refl))

    moves_are : moves_of bytes pad ≡ and_then (factors_in bytes) next
    unfolding moves_of factors_in
    moves_are =
        rw same_refusal
        (tested_cases (file_refusal bytes) refused (and_then (factors_in bytes) next) (λ o. o ≡ and_then (factors_in bytes) next) (λ _. refl)
        (λ some. ap (λ (o : Outcome Packed). and_then o next) (sym (tested_some (file_refusal bytes) refused _ some))))

    module _ (out : Column) where
      pub moving_held : (told : Record) (M : Column) (S : List ℕ) → factors_in bytes ≡ done (packed_in M S told) → told.rows ≡ n → (tossed : ℕ)
          → tossed ≡ toss_ups_in bytes → (answer : Result Order Refusal) (x : Column)
          → pads_ordered answer ≡ and_then (solution_by true (packed_in M S told) (unit_column told.rows (pad - 1))) (λ _. done (told.rows, tossed))
          → x ≡ fronted told.rows (solution_by true (packed_in M S told) (unit_column told.rows (pad - 1))) out
          → (pads_ordered answer ≡ (moving bytes pad out).answer) × (x ≡ (moving bytes pad out).left)
      unfolding moving
      moving_held told M S e d tossed t answer x p f =
          let same : solution_by true (packed_in M S told) (unit_column told.rows (pad - 1)) ≡ moves_of bytes pad =
          ap (λ (k : ℕ). solution_by true (packed_in M S told) (unit_column k (pad - 1))) d ∙ ap (λ (o : Outcome Packed). and_then o next) (sym e)
          ∙ sym moves_are in
          (p ∙ (λ i. and_then (same i) (λ _. done (d i, t i))), f ∙ (λ i. fronted (d i) (same i) out))

      pub moving_refused : (r : Refusal) (m : ℕ) (answer : Result Order Refusal) (x : Column) → factors_in bytes ≡ refused (number r) → m ≡ n
          → answer ≡ Err r → x ≡ fronted m (refused (number r)) out
          → (pads_ordered answer ≡ (moving bytes pad out).answer) × (x ≡ (moving bytes pad out).left)
      unfolding moving
      moving_refused r m answer x e d a f =
          let same : refused (number r) ≡ moves_of bytes pad = ap (λ (o : Outcome Packed). and_then o next) (sym e) ∙ sym moves_are in
          (ap pads_ordered a ∙ ap (λ (o : Outcome Column). and_then o (λ _. done (n, toss_ups_in bytes))) same, f ∙ (λ i. fronted (d i) (same i) out))

  -- no such pad: the file's refusal, else 1
  pub refused_by_file : (r : Refusal) → number r ≡ file_refusal bytes → number r ≡ moves_refusal bytes pad
  unfolding moves_refusal file_refusal
  refused_by_file r e = refused_before (file_tests true bytes) ((1, no_pad n pad) ∷ []) r e

  pub refused_by_pad : no_pad n pad ≡ true → 0 ≡ file_refusal bytes → 1 ≡ moves_refusal bytes pad
  unfolding moves_refusal file_refusal first_holding
  refused_by_pad nowhere e =
      ap (λ (t : Bool). first_holding ((1, t) ∷ [])) (sym nowhere)
      ∙ passed_before (file_tests true bytes) ((1, no_pad n pad) ∷ []) (file_numbered true bytes) e

  pub moving_early : (r : Refusal) (answer : Result Order Refusal) (out : Column) → number r ≡ moves_refusal bytes pad → answer ≡ Err r
      → (pads_ordered answer ≡ (moving bytes pad out).answer) × (out ≡ (moving bytes pad out).left)
  unfolding moving moves_of
  moving_early r answer out e a =
      let same : refused (number r) ≡ moves_of bytes pad = ap refused e ∙ sym (tested_some (moves_refusal bytes pad) refused _ (λ z. never_0 r (e ∙ z))) in
      let early : number r ≡ 7 → ⊥ = rw e (moves_among (λ j. j ≡ 7 → ⊥) (λ z. omega (arith, z)) (λ z. omega (arith, z)) (λ z. omega (arith, z))
      (λ z. omega (arith, z)) (λ z. omega (arith, z))) in (
        ap pads_ordered a ∙ ap (λ (o : Outcome Column). and_then o (λ _. done (n, toss_ups_in bytes))) same,
        fronted_kept n (number r) out early ∙ ap (λ (o : Outcome Column). fronted n o out) same,
      )

  -- what the numbers are known by
  pub moves_known : (x : Column) → moves_of bytes pad ≡ done x → (n ≤ 64) × (all_finite x ≡ true)
  unfolding moves_of
  moves_known x e =
      then_done (factors_in bytes) next x (tested_done (moves_refusal bytes pad) (and_then (factors_in bytes) next) x e).1
      (λ p d f. ((factors_size bytes p d).1, solution_finite true p (unit_column n (pad - 1)) x f))

  pub moves_few : (k : ℕ) → moves_of bytes pad ≡ refused k → k ≤ 9
  unfolding moves_of
  moves_few k e =
      tested_refused (moves_refusal bytes pad) (and_then (factors_in bytes) next) k e
      (λ _ d. then_refused (factors_in bytes) next k d (factors_few bytes k) (λ p _ f. solution_few true p (unit_column n (pad - 1)) k f))
      (λ _ d. let few = moves_among (λ j. j ≤ 9) (omega arith) (omega arith) (omega arith) (omega arith) (omega arith) in omega (arith, d, few))
