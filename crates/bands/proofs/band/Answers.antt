-- The band of the least number's exponent, or none. Assumes nothing.
use mathlib.Core.Path.{sym, ap, ◌∙◌}
use Rattle.bands.specs.Bands.{biased, band_of, band_on}
use Rattle.bands.proofs.Least.{least_number}
use Rattle.bands.proofs.band.Goals as goal

pub least_on_diagonal-requires : goal.least_on_diagonal-requires
least_on_diagonal-requires c = sym c.is_matrix.ensures ∙ c.if-is_matrix.true

pub exponent-requires : goal.exponent-requires
exponent-requires c = rw c.least_on_diagonal.ensures (least_number _ _)

pub returns-then-is_matrix-clause-value : goal.returns-then-is_matrix-clause-value
unfolding band_on
returns-then-is_matrix-clause-value c =
    rw (sym c.is_matrix.ensures ∙ c.if-is_matrix.true)
    (c.band_of.ensures.value ∙ ap band_of (c.exponent.ensures ∙ ap biased c.least_on_diagonal.ensures))

pub returns-else-is_matrix-clause-value : goal.returns-else-is_matrix-clause-value
unfolding band_on
returns-else-is_matrix-clause-value c = rw (sym c.is_matrix.ensures ∙ c.if-is_matrix.false)
