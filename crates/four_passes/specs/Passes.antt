-- What four columns are asked before they are solved, and the two passes.
use Rattle.std.specs.Prelude.{Bool, not, eqb}
use Rattle.numbers.specs.Numbers.{one64}
use Rattle.numbers.specs.Column.{Column}
use Rattle.dead_columns.specs.Dead.{dead_in}
use Rattle.triangular_passes.specs.declared.Pass.TheVariants.{Upper, GivenDiagonal}
use Rattle.triangular_passes.specs.Triangular.{solved_column}
use Rattle.four_by_four.specs.declared.System.{System}
use Rattle.four_by_four.specs.System.{matrix_of}

-- refusal 6, by the number of dead columns
abbrev pub is_dead : System → Bool
is_dead s = not (eqb (dead_in 4 (matrix_of s)) 0)

-- the two passes of a solve
abbrev pub lower_by : System → Column → Column
lower_by s b = solved_column (GivenDiagonal one64) 4 (matrix_of s) b

abbrev pub upper_by : System → Column → Column
upper_by s b = solved_column Upper 4 (matrix_of s) b
