-- By the sign: the number negated, or as it is; an i32 and a u64 hold both. Assumes nothing.
use mathlib.Core.Path.{ap}
use lib.IntN.{nat_abs}
use Rattle.panel_text.proofs.Whole.{negated_held, negated_is, negated_cast, above_cast}
use Rattle.panel_text.proofs.bare.Goals as goal

pub overflow_sub-result : goal.overflow_sub-result
overflow_sub-result c = negated_held c.args.e c.requires c.if-e-lt0.true

pub overflow_cast-result : goal.overflow_cast-result
overflow_cast-result c = negated_cast c.args.e c.requires c.if-e-lt0.true

pub overflow_cast-result-else-e-lt0 : goal.overflow_cast-result-else-e-lt0
overflow_cast-result-else-e-lt0 c = above_cast c.args.e c.requires c.if-e-lt0.false

pub returns-then-e-lt0 : goal.returns-then-e-lt0
returns-then-e-lt0 c = ap nat_abs (negated_is c.args.e c.requires c.if-e-lt0.true)
