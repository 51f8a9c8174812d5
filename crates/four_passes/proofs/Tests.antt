-- The tests of four entries, of sixteen, and of the diagonal. By the products of `finite`, and by cases on a zero. Assumes nothing.
use mathlib.Core.Path.{◌≡◌, refl, sym, ap, ◌∙◌}
use mathlib.Core.Bool.{Bool, true, false, cond, not, ◌&&◌, ◌||◌}
use mathlib.Core.List.{[], ◌∷◌, ◌++◌}
use Prim.Native.Nat.{ℕ, ◌+◌}
use native.Mathlib.Omega.{arith}
use borrow.Author.Tests.{ne_eqb}
use lib.Dec.{eqb}
use lib.Ieee.{Float, binary64, mul, eq, of_bits}
use lib.Ieee.Scale.{finite}
use Rattle.numbers.specs.Each.{each_from}
use Rattle.numbers.specs.Numbers.{zero64, is_zero}
use Rattle.numbers.specs.Column.{Column}
use Rattle.numbers.proofs.Choice.{and_true}
use Rattle.finite.specs.Finite.{all_finite}
use Rattle.finite.proofs.Product.{naught, calm, every, paired, block_more, together, eight_tell}
use Rattle.store.specs.Columns.{flat}
use Rattle.dead_columns.specs.Dead.{zero_count, dead_from, dead_in}
use Rattle.four_by_four.specs.declared.System.{System}
use Rattle.four_by_four.specs.System.{listed, matrix_of}
use Rattle.four_passes.specs.Passes.{is_dead}

pub four_finite : (a b c d : Float) → (finite a && (finite b && (finite c && finite d))) ≡ all_finite (a ∷ b ∷ c ∷ d ∷ [])
unfolding all_finite
four_finite a b c d = ap (λ (t : Bool). finite a && (finite b && (finite c && t))) (sym (and_true (finite d)))

-- a product that starts at 0.0, over two entries
abbrev pub product : Float → Float → Float
product x y = mul binary64 (mul binary64 zero64 x) y

abbrev naughts : Column
naughts = zero64 ∷ zero64 ∷ zero64 ∷ zero64 ∷ zero64 ∷ zero64 ∷ zero64 ∷ zero64 ∷ []

calm_naughts : every calm naughts ≡ true
unfolding every calm of_bits
calm_naughts = refl

naught_naughts : every naught naughts ≡ true
unfolding every naught of_bits
naught_naughts = refl

-- one zero more is counted where there is one
counted_one : (t u : Bool) (k : ℕ) → u ≡ not (eqb k 0) → (t || u) ≡ not (eqb (cond t 1 0 + k) 0)
counted_one true u k e = rw (ne_eqb (1 + k) 0 (λ z. omega (arith, z)))
counted_one false u k e = let same : k ≡ 0 + k = omega arith in e ∙ ap (λ (j : ℕ). not (eqb j 0)) same

module _ (s : System) where
  abbrev all : Float
  all =
      together (product s.c0.0 s.c2.0) (product s.c0.1 s.c2.1) (product s.c0.2 s.c2.2) (product s.c0.3 s.c2.3)
      (product s.c1.0 s.c3.0) (product s.c1.1 s.c3.1) (product s.c1.2 s.c3.2) (product s.c1.3 s.c3.3)

  abbrev left : Column
  left = s.c0.0 ∷ s.c0.1 ∷ s.c0.2 ∷ s.c0.3 ∷ listed s.c1

  abbrev right : Column
  right = s.c2.0 ∷ s.c2.1 ∷ s.c2.2 ∷ s.c2.3 ∷ listed s.c3

  pub sixteen_tell : eq all all ≡ all_finite (flat (matrix_of s))
  unfolding flat each_from all_finite
  sixteen_tell =
      let one = block_more naughts left right (left ++ right) refl calm_naughts refl in
      let two = block_more (paired naughts left) right [] right refl one.0 refl in
      eight_tell _ _ _ _ _ _ _ _ two.0 ∙ sym (and_true _) ∙ two.1 ∙ one.1 ∙ ap (λ (t : Bool). t && all_finite (left ++ right)) naught_naughts

  pub dead_told : (is_zero s.c0.0 || (is_zero s.c1.1 || (is_zero s.c2.2 || is_zero s.c3.3))) ≡ is_dead s
  unfolding dead_in dead_from zero_count
  dead_told =
      let last = is_zero s.c3.3 in
      let third = cond last 1 0 + 0 in
      let second = cond (is_zero s.c2.2) 1 0 + third in
      let first = cond (is_zero s.c1.1) 1 0 + second in
      counted_one (is_zero s.c0.0) _ first
      (counted_one (is_zero s.c1.1) _ second (counted_one (is_zero s.c2.2) last third (sym (or_false last) ∙ counted_one last false 0 refl)))
    where
      or_false : (t : Bool) → (t || false) ≡ t
      or_false true = refl
      or_false false = refl
