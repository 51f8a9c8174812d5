-- Document 02, request 8, for solving: what the two passes store, in the crate's order. "Lower runs downward, upper upward; each divides, then updates the
-- rest": the unit lower pass over all right-hand columns, then the upper pass over all.
use Rattle.std.specs.Prelude.{List, [], ◌∷◌, ◌++◌, ℕ, zero, suc, ◌+◌, ◌-◌, take, drop}
use Rattle.numbers.specs.Numbers.{one64}
use Rattle.numbers.specs.Column.{Column, entry}
use Rattle.store.specs.Steps.{Matrix}
use Rattle.swap_list.specs.SwapList.{Swaps}
use Rattle.triangular_passes.specs.declared.Pass.{Pass}
use Rattle.triangular_passes.specs.declared.Pass.TheVariants.{Upper, GivenDiagonal}
use Rattle.triangular_passes.specs.Triangular.{turns_of, turn}
use Rattle.from_factors.specs.Reason.{swapped_sides, lower_sides}
use Rattle.why.specs.Results.{Result, rows_from, in_turn}

-- which pass, which right-hand column, which row: 1 is the unit lower pass, 2 the upper one
pub record Spot : Type 0 where
  pub pass : ℕ
  pub column : ℕ
  pub row : ℕ

abbrev pub spot_at : ℕ → ℕ → ℕ → Spot
spot_at pass j r = record { pass = pass; column = j; row = r }

-- turn k of the unit lower pass, in which it is row k's: the rows below it; c is right-hand column j after it
abbrev pub lower_results : ℕ → ℕ → ℕ → Column → List (Result Spot)
lower_results n j k c = rows_from (spot_at 1 j) (k + 1) (drop (k + 1) c)

-- turn k of the upper pass, in which it is row n - 1 - k's: its quotient, then the rows above it from 0 on
abbrev pub upper_results : ℕ → ℕ → ℕ → Column → List (Result Spot)
upper_results n j k c =
    let i = n - 1 - k in
    record { place = spot_at 2 j i; value = entry c i } ∷ rows_from (spot_at 2 j) 0 (take i c)

-- so many turns of a pass on right-hand column j, from turn k on
unfoldable pub turns_results : (ℕ → Column → List (Result Spot)) → (ℕ → Column → Column) → ℕ → ℕ → Column → List (Result Spot)
turns_results stored by k zero c = []
turns_results stored by k (suc turns) c = stored k (by k c) ++ turns_results stored by (k + 1) turns (by k c)

-- a pass over the right-hand columns bs, by the n by n columns cs
abbrev pub pass_results : (ℕ → ℕ → Column → List (Result Spot)) → Pass → ℕ → Matrix → Matrix → List (Result Spot)
pass_results stored pass n cs bs = in_turn (λ j b. turns_results (stored j) (turn pass n cs) 0 (turns_of pass n) b) 0 bs

-- the two passes, after the rows are swapped
unfoldable pub solving_results : ℕ → Matrix → Swaps → Matrix → List (Result Spot)
solving_results n cs swaps bs =
    pass_results (lower_results n) (GivenDiagonal one64) n cs (swapped_sides swaps bs)
    ++ pass_results (upper_results n) Upper n cs (lower_sides n cs swaps bs)
