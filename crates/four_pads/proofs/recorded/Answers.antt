-- By the three tests. Assumes nothing.
use borrow.Author.Tests.{eq-eqb, ne_eqb}
use Rattle.factors.specs.Factors.{record_swap, numbers_of, store_of}
use Rattle.four_pads.proofs.recorded.Goals as goal

pub returns-then-r-eq2 : goal.returns-then-r-eq2
unfolding record_swap store_of numbers_of
returns-then-r-eq2 c = rw (eq-eqb _ 0 c.if-p-eq0.true, eq-eqb _ 1 c.if-q-eq1.true, eq-eqb _ 2 c.if-r-eq2.true)

pub returns-then-q-eq1 : goal.returns-then-q-eq1
unfolding record_swap store_of numbers_of
returns-then-q-eq1 c = rw (eq-eqb _ 0 c.if-p-eq0.true, eq-eqb _ 1 c.if-q-eq1.true, ne_eqb _ 2 c.if-r-eq2.false)

pub returns-then-r-eq2-2 : goal.returns-then-r-eq2-2
unfolding record_swap store_of numbers_of
returns-then-r-eq2-2 c = rw (eq-eqb _ 0 c.if-p-eq0.true, ne_eqb _ 1 c.if-q-eq1.false, eq-eqb _ 2 c.if-r-eq2-2.true)

pub returns-then-p-eq0 : goal.returns-then-p-eq0
unfolding record_swap store_of numbers_of
returns-then-p-eq0 c = rw (eq-eqb _ 0 c.if-p-eq0.true, ne_eqb _ 1 c.if-q-eq1.false, ne_eqb _ 2 c.if-r-eq2-2.false)

pub returns-then-r-eq2-3 : goal.returns-then-r-eq2-3
unfolding record_swap store_of numbers_of
returns-then-r-eq2-3 c = rw (ne_eqb _ 0 c.if-p-eq0.false, eq-eqb _ 1 c.if-q-eq1-2.true, eq-eqb _ 2 c.if-r-eq2-3.true)

pub returns-then-q-eq1-2 : goal.returns-then-q-eq1-2
unfolding record_swap store_of numbers_of
returns-then-q-eq1-2 c = rw (ne_eqb _ 0 c.if-p-eq0.false, eq-eqb _ 1 c.if-q-eq1-2.true, ne_eqb _ 2 c.if-r-eq2-3.false)

pub returns-then-r-eq2-4 : goal.returns-then-r-eq2-4
unfolding record_swap store_of numbers_of
returns-then-r-eq2-4 c = rw (ne_eqb _ 0 c.if-p-eq0.false, ne_eqb _ 1 c.if-q-eq1-2.false, eq-eqb _ 2 c.if-r-eq2-4.true)

pub returns : goal.returns
unfolding record_swap store_of numbers_of
returns c = rw (ne_eqb _ 0 c.if-p-eq0.false, ne_eqb _ 1 c.if-q-eq1-2.false, ne_eqb _ 2 c.if-r-eq2-4.false)
