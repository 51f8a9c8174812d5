-- Document 01, "Refusal numbers" and "Sizes": the sizes, and refusal 7.
use Rattle.std.specs.Prelude.{Bool, cond, ◌||◌, ℕ, ltb, length}
use Rattle.numbers.specs.Column.{Column, zeros}
use Rattle.finite.specs.Finite.{all_finite}
use Rattle.refusals.specs.Outcome.{done, refused, Call}

-- refusal 1: a size outside `least` to 64; `least` is 1 for rows and right-hand columns, and 0 for columns
unfoldable pub outside : ℕ → ℕ → Bool
outside least size = ltb size least || ltb 64 size

-- refusal 7: "some result is not finite", "result slices +0.0"
unfoldable pub seventh : Column → Call (Unit {0}) Column
seventh made = cond (all_finite made) (record { answer = done tt; left = made }) (record { answer = refused 7; left = zeros (length made) })
