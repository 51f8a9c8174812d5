-- Words of the inner functions: what each part of a step leaves.
use Rattle.std.specs.Prelude.{◌≡◌, cond, [], ◌∷◌, ℕ, leb, ltb, eqb, Float}
use Rattle.std.specs.Float.Ieee.{lt}
use Rattle.numbers.specs.Numbers.{magnitude}
use Rattle.numbers.specs.Column.{Column}
use Rattle.blas.specs.Blas.{swap_rows}
use Rattle.store.specs.Steps.{Matrix}
use Rattle.one_step.specs.OneStep.{step_column}
use Rattle.swap_list.specs.SwapList.{Swaps}
use Rattle.factors.specs.Factors.{Factors, record_swap}
use Rattle.elimination.specs.Elimination.{step}
use Rattle.four_by_four.specs.declared.System.{System}
use Rattle.four_by_four.specs.declared.After.{After}
use Rattle.four_by_four.specs.declared.Found.{Found}
use Rattle.four_by_four.specs.System.{listed, matrix_of}

-- the search for the pivot of step i after the entry in row k, which counts where it is below row i
unfoldable pub next_of : Found → ℕ → ℕ → Float → Found
next_of f i k x =
    let v = magnitude x in
    let g = lt f.top v in
    cond (leb k i) f (record { top = cond g v f.top; row = cond g k f.row })

-- column j after step i, l being column i with its multipliers
unfoldable pub stepped_by : ℕ → ℕ → Column → Column → Column
stepped_by i j l c = cond (ltb j i) c (cond (eqb j i) l (step_column i l c))

abbrev pub columns_by : ℕ → System → Column → Matrix
columns_by i t l = stepped_by i 0 l (listed t.c0) ∷ stepped_by i 1 l (listed t.c1) ∷ stepped_by i 2 l (listed t.c2) ∷ stepped_by i 3 l (listed t.c3) ∷ []

-- a system with the swaps that led to it
abbrev pub factors_of : System → Swaps → Factors
factors_of s swaps = record { columns = matrix_of s; swaps = swaps }

-- step i, whatever was recorded before it; the readings take part in its swap
pub record Stepped (i : ℕ) (s : System) (r : After) : Type 0 where
  pub columns : (swaps : Swaps) → factors_of r.system (record_swap i r.row swaps) ≡ step i (factors_of s swaps)
  pub readings : listed r.system.x ≡ swap_rows i r.row (listed s.x)
