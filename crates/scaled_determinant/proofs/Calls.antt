-- What the call on factors answers, in the words of document 02, request 10: its refusals are 1 to 5 and 9, so it never overflows; the number is in range,
-- or +0.0 with exponent 0, and that exactly where the matrix is not invertible; and where the running products allow it, it is the plain determinant; what
-- follows the last pair is not read. From the laws on the number itself, since both calls are refused by the same tests. Assumes nothing.
use mathlib.Core.Path.{◌≡◌, refl, sym, ap, ◌∙◌, subst}
use mathlib.Core.Logic.{◌⊎◌, inl, inr}
use mathlib.Core.Bool.{Bool, true, false, not}
use mathlib.Core.List.{List}
use Prim.Native.Nat.{ℕ, ◌≤◌, ◌^◌}
use native.Mathlib.Nat.{lt_of_lt_of_le}
use native.Mathlib.Omega.{arith}
use lib.Dec.{eqb}
use lib.IntN.{ℤ}
use lib.ListN.{take}
use lib.Pow.{pow_pos}
use lib.Ieee.{Float, nan, inf, fin, binary64, mul, eq, of_bits}
use lib.Ieee.Scale.{finite}
use Rattle.numbers.specs.Numbers.{is_zero, zero64}
use Rattle.numbers.specs.Column.{Column}
use Rattle.store.specs.Columns.{columns, is_matrix}
use Rattle.store.specs.Steps.{Matrix}
use Rattle.refusals.specs.Outcome.{Outcome, done, refused, first_holding, tested, and_then}
use Rattle.refusals.proofs.Outcomes.{tested_none, tested_some, tested_cases, tested_map}
use Rattle.refusals.proofs.Cases.{first_among, done_same, never_both, tested_done, tested_refused}
use Rattle.permutation_sequence.specs.Calls.{sign_of}
use Rattle.solve.specs.Calls.{zero_on_diagonal}
use Rattle.solve.proofs.Corrected.{Doubles}
use Rattle.factors.specs.declared.Record.{Record}
use Rattle.factors.specs.Held.{held_tests, held_refusal}
use Rattle.factors.proofs.Held.{passed, square_matrix}
use Rattle.factors.proofs.Unread.{SamePairs, held_unread}
use Rattle.from_factors.specs.Determinant.{diagonal_product, determinant_of, square_asks, number_or7, producing, determining, inverse_test}
use Rattle.from_factors.proofs.Dead.{dead_zero}
use Rattle.scaled_determinant.specs.declared.Scaled.{Scaled}
use Rattle.scaled_determinant.specs.Determinant.{scaled_product, scaled_determinant, scaling}
use Rattle.scaled_determinant.specs.Range.{Ranged}
use Rattle.scaled_determinant.proofs.OneWay.{Fine}
use Rattle.scaled_determinant.proofs.Parts.{fine_nonzero, value_fine}
use Rattle.scaled_determinant.proofs.Range.{Sound, signed_sig}
use Rattle.scaled_determinant.proofs.Diagonal.{diagonal_doubles, sound_nonzero, number_cases, number_ranged}
use Rattle.scaled_determinant.proofs.Exactly.{shifted, value_of, AllAmple, ample_sound, exactly}

same_tests : {A : Type 0} (number : ℕ) (a b : Outcome A) → (number ≡ 0 → a ≡ b) → tested number refused a ≡ tested number refused b
same_tests number a b e =
    tested_cases number refused a (λ o. o ≡ tested number refused b) (λ z. e z ∙ sym (tested_none number refused b z))
    (λ z. sym (tested_some number refused b z))

twice : (t : Bool) → t ≡ not (not t)
twice true = refl
twice false = refl

zero_is : is_zero zero64 ≡ true
unfolding is_zero eq of_bits
zero_is = refl

signed_fine : (n : ℕ) (cs : Matrix) (pairs : ℕ) → Sound n cs → Fine (mul binary64 (scaled_product n cs).significand (sign_of pairs))
signed_fine n cs pairs s = let h = signed_sig n cs pairs s in
    value_fine (mul binary64 (scaled_product n cs).significand (sign_of pairs)) h.0 h.1 (2 ^ 52) (lt_of_lt_of_le (pow_pos 52) h.2.1) h.2.0

shifted_finite : (k : ℤ) (x : Float) → Fine x → finite (shifted k x) ≡ true
shifted_finite k nan f = absurd f
shifted_finite k (inf s) f = absurd f
shifted_finite k (fin s m e) f = refl

module _ (r : Record) (factors : Column) (store : List ℕ) where
  abbrev n : ℕ
  n = r.rows

  abbrev cs : Matrix
  cs = columns n n factors

  -- ---- the refusals
  few_tests : held_refusal factors store r square_asks ≡ first_holding (take 6 (held_tests factors store r square_asks))
  unfolding held_refusal first_holding
  few_tests = refl

  -- THEOREM. "Refusals: 1 to 5 and 9 only": never 7, so the call never overflows.
  pub scaled_refusals : (k : ℕ) → scaling factors store r ≡ refused k → (1 ≤ k) × ((k ≤ 5) ⊎ (k ≡ 9))
  unfolding scaling
  scaled_refusals k e =
      let number = held_refusal factors store r square_asks in
      let among : (number ≤ 5) ⊎ (number ≡ 9) = rw few_tests
      (first_among (λ j. (j ≤ 5) ⊎ (j ≡ 9)) (take 6 (held_tests factors store r square_asks)) (inl (omega arith))
      (inl (omega arith), (inl (omega arith), (inl (omega arith), (inl (omega arith), (inl (omega arith), (inr refl, tt))))))) in
      tested_refused number (done (scaled_determinant factors n r.pairs)) k e (λ z d. never_both (scaled_determinant factors n r.pairs) k d)
      (λ some is. let one : 1 ≤ number = omega arith in rw (← is) (one, among))

  -- THEOREM. What follows the last pair is not read: two swap stores that agree on their pairs give the same outcome.
  pub scaling_unread : (other : List ℕ) → SamePairs r.pairs store other → scaling factors store r ≡ scaling factors other r
  unfolding scaling
  scaling_unread other alike = rw (held_unread r store other alike factors square_asks)

  -- ---- the number
  module _ (double : Doubles factors) where
    whole : held_refusal factors store r square_asks ≡ 0 → is_matrix factors n n ≡ true
    whole z = square_matrix factors store r square_asks refl (passed factors store r square_asks z)

    -- THEOREM. The significand's magnitude is from 1 up to but not 2 and the exponent from -68,736 up to 65,535; or it is +0.0 with exponent 0.
    pub scaled_range : (x : Scaled) → scaling factors store r ≡ done x → Ranged x
    unfolding scaling
    scaled_range x e =
        let o = tested_done (held_refusal factors store r square_asks) (done (scaled_determinant factors n r.pairs)) x e in
        subst Ranged (done_same (scaled_determinant factors n r.pairs) x o.1)
        (number_ranged n factors (whole o.0) (passed factors store r square_asks o.0).finite double r.pairs)

    -- THEOREM. It vanishes exactly where the matrix is not invertible: the invertible test answers whether the significand is not zero.
    pub vanishes_exactly : inverse_test factors store r ≡ and_then (scaling factors store r) (λ x. done (not (is_zero x.significand)))
    unfolding inverse_test scaling
    vanishes_exactly =
        let number = held_refusal factors store r square_asks in
        same_tests number (done (eqb r.dead 0)) (done (not (is_zero (scaled_determinant factors n r.pairs).significand))) (λ z.
        let p = passed factors store r square_asks z in
        let living : eqb r.dead 0 ≡ not (zero_on_diagonal factors n) = twice (eqb r.dead 0) ∙ ap not (sym (dead_zero factors store r square_asks refl p)) in
        ap done
        (living
        ∙ ap not (number_cases n factors (whole z) p.finite double r.pairs (λ x. zero_on_diagonal factors n ≡ is_zero x.significand)
        (λ e. e ∙ sym zero_is) (λ e s. e ∙ sym (fine_nonzero _ (signed_fine n cs r.pairs s))))))
        ∙ sym (tested_map (λ o. and_then o (λ x. done (not (is_zero x.significand)))) number refused (done (scaled_determinant factors n r.pairs)))

    plain_is : AllAmple n cs → held_refusal factors store r square_asks ≡ 0
        → number_or7 (determinant_of n cs r.pairs) ≡ done (value_of (scaled_determinant factors n r.pairs))
    unfolding number_or7 scaled_determinant
    plain_is all z =
        let d = diagonal_doubles n factors (whole z) double in
        let s = ample_sound n cs d all in
        rw (exactly n cs r.pairs d all, shifted_finite _ _ (signed_fine n cs r.pairs s), sound_nonzero n factors (whole z) s)

    -- THEOREM. Where every running product of the plain determinant is finite and of magnitude above 2 ^ -1022, the plain determinant is the scaled one's
    -- significand times two to its exponent, exactly; and both are refused alike.
    pub scaled_exactly : AllAmple n cs → determining factors store r ≡ and_then (scaling factors store r) (λ x. done (value_of x))
    unfolding determining producing scaling determinant_of
    scaled_exactly all =
        let number = held_refusal factors store r square_asks in
        tested_map (λ o. and_then o (λ d. number_or7 (mul binary64 d (sign_of r.pairs)))) number refused (done (diagonal_product n cs))
        ∙ same_tests number (number_or7 (determinant_of n cs r.pairs)) (done (value_of (scaled_determinant factors n r.pairs))) (plain_is all)
        ∙ sym (tested_map (λ o. and_then o (λ x. done (value_of x))) number refused (done (scaled_determinant factors n r.pairs)))
