-- Document 02, request 8, for overflow in a solve from the factors: the first stored result that is not finite, of the unit lower pass over all right-hand
-- columns, then of the upper pass. The swaps store nothing new.
use Rattle.std.proofs.Math.Option.{Option, or_else}
use Rattle.std.specs.Prelude.{ℕ}
use Rattle.numbers.specs.Each.{each_from}
use Rattle.numbers.specs.Numbers.{one64}
use Rattle.store.specs.Steps.{Matrix}
use Rattle.swap_list.specs.SwapList.{Swaps}
use Rattle.exchanges.specs.Permute.{permute}
use Rattle.triangular_passes.specs.declared.Pass.TheVariants.{Upper, GivenDiagonal}
use Rattle.triangular_passes.specs.Triangular.{solved_columns}
use Rattle.solve.specs.Reason.{Stored, first_in_pass}

-- the right-hand columns as the unit lower pass takes them, and as it leaves them
abbrev pub swapped_sides : Swaps → Matrix → Matrix
swapped_sides swaps bs = each_from (λ j b. permute swaps b) 0 bs

abbrev pub lower_sides : ℕ → Matrix → Swaps → Matrix → Matrix
lower_sides n cs swaps bs = solved_columns (GivenDiagonal one64) n cs (swapped_sides swaps bs)

unfoldable pub solve_reason : ℕ → Matrix → Swaps → Matrix → Option Stored
solve_reason n cs swaps bs = or_else (first_in_pass (GivenDiagonal one64) n cs (swapped_sides swaps bs)) (first_in_pass Upper n cs (lower_sides n cs swaps bs))
