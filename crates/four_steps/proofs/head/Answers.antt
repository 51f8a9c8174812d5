-- The three rows by the numbers read before any is written (`head_made`). Assumes nothing.
use Prim.Native.Nat.{ℕ, ◌*◌, ◌+◌, ◌≤◌, ◌<◌}
use native.Mathlib.Nat.{mul-le-mul_right}
use native.Mathlib.Omega.{arith}
use lib.ListN.{length, length-set}
use Rattle.store.proofs.Columns.{sized}
use Rattle.four_steps.proofs.Places.{Placed, placed, head_made}
use Rattle.four_steps.proofs.head.Goals.{Start}
use Rattle.four_steps.proofs.head.Goals as goal

-- the store is short
short : (c : Start) → length c.args.s.now ≤ 4096
short c =
    let is = sized _ _ _ c.requires.n_value.0 in
    omega (arith, is.size, mul-le-mul_right c.args.m is.columns_most, is.rows_most)

-- the rows i to i + 3 are there
row_0 : (c : Start) → c.args.i < c.args.m
row_0 c = omega (arith, c.requires.n_value.1)

row_1 : (c : Start) → c.args.i + 1 < c.args.m
row_1 c = omega (arith, c.requires.n_value.1)

row_2 : (c : Start) → c.args.i + 2 < c.args.m
row_2 c = omega (arith, c.requires.n_value.1)

row_3 : (c : Start) → c.args.i + 3 < c.args.m
row_3 c = omega (arith, c.requires.n_value.1)

-- a row of column j, and of the first three columns of the steps
own : (c : Start) {r : ℕ} → r < c.args.m → Placed (c.args.j * c.args.m) r (length c.args.s.now)
own c h = placed _ _ _ _ c.requires.reaches.own h (short c)

first : (c : Start) {r : ℕ} → r < c.args.m → Placed (c.args.i * c.args.m) r (length c.args.s.now)
first c h = placed _ _ _ _ c.requires.reaches.first h (short c)

second : (c : Start) {r : ℕ} → r < c.args.m → Placed ((c.args.i + 1) * c.args.m) r (length c.args.s.now)
second c h = placed _ _ _ _ c.requires.reaches.second h (short c)

third : (c : Start) {r : ℕ} → r < c.args.m → Placed ((c.args.i + 2) * c.args.m) r (length c.args.s.now)
third c h = placed _ _ _ _ c.requires.reaches.third h (short c)

pub returns : goal.returns
returns c =
    head_made _ _ _ _ (sized _ _ _ c.requires.n_value.0).size c.requires.n_value.3 _ c.requires.n_value.1 c.requires.n_value.2

pub overflow_add-f0 : goal.overflow_add-f0
overflow_add-f0 c = (own c (row_0 c)).sum

pub offset_bounds-s-b : goal.offset_bounds-s-b
offset_bounds-s-b c = (own c (row_0 c)).bytes

pub bounds-s-b : goal.bounds-s-b
bounds-s-b c = (own (goal.at.bounds-s-b c).Start (row_0 (goal.at.bounds-s-b c).Start)).inside

pub overflow_add-u1 : goal.overflow_add-u1
overflow_add-u1 c = (first (goal.at.overflow_add-u1 c).Start (row_1 (goal.at.overflow_add-u1 c).Start)).sum

pub offset_bounds-s-a0 : goal.offset_bounds-s-a0
offset_bounds-s-a0 c = (first (goal.at.offset_bounds-s-a0 c).Start (row_1 (goal.at.offset_bounds-s-a0 c).Start)).bytes

pub bounds-s-a0 : goal.bounds-s-a0
bounds-s-a0 c = (first (goal.at.bounds-s-a0 c).Start (row_1 (goal.at.bounds-s-a0 c).Start)).inside

pub overflow_add-u1-2 : goal.overflow_add-u1-2
overflow_add-u1-2 c = (own (goal.at.overflow_add-u1-2 c).Start (row_1 (goal.at.overflow_add-u1-2 c).Start)).sum

pub offset_bounds-s-b-2 : goal.offset_bounds-s-b-2
offset_bounds-s-b-2 c = (own (goal.at.offset_bounds-s-b-2 c).Start (row_1 (goal.at.offset_bounds-s-b-2 c).Start)).bytes

pub bounds-s-b-2 : goal.bounds-s-b-2
bounds-s-b-2 c = (own (goal.at.bounds-s-b-2 c).Start (row_1 (goal.at.bounds-s-b-2 c).Start)).inside

pub overflow_add-v2 : goal.overflow_add-v2
overflow_add-v2 c = (first (goal.at.overflow_add-v2 c).Start (row_2 (goal.at.overflow_add-v2 c).Start)).sum

pub offset_bounds-s-a0-2 : goal.offset_bounds-s-a0-2
offset_bounds-s-a0-2 c = (first (goal.at.offset_bounds-s-a0-2 c).Start (row_2 (goal.at.offset_bounds-s-a0-2 c).Start)).bytes

pub bounds-s-a0-2 : goal.bounds-s-a0-2
bounds-s-a0-2 c = (first (goal.at.bounds-s-a0-2 c).Start (row_2 (goal.at.bounds-s-a0-2 c).Start)).inside

pub overflow_add-v2-2 : goal.overflow_add-v2-2
overflow_add-v2-2 c = (own (goal.at.overflow_add-v2-2 c).Start (row_2 (goal.at.overflow_add-v2-2 c).Start)).sum

pub offset_bounds-s-b-3 : goal.offset_bounds-s-b-3
offset_bounds-s-b-3 c = (own (goal.at.offset_bounds-s-b-3 c).Start (row_2 (goal.at.offset_bounds-s-b-3 c).Start)).bytes

pub bounds-s-b-3 : goal.bounds-s-b-3
bounds-s-b-3 c = (own (goal.at.bounds-s-b-3 c).Start (row_2 (goal.at.bounds-s-b-3 c).Start)).inside

pub overflow_add-u2 : goal.overflow_add-u2
overflow_add-u2 c = (second (goal.at.overflow_add-u2 c).Start (row_2 (goal.at.overflow_add-u2 c).Start)).sum

pub offset_bounds-s-a1 : goal.offset_bounds-s-a1
offset_bounds-s-a1 c = (second (goal.at.offset_bounds-s-a1 c).Start (row_2 (goal.at.offset_bounds-s-a1 c).Start)).bytes

pub bounds-s-a1 : goal.bounds-s-a1
bounds-s-a1 c = (second (goal.at.bounds-s-a1 c).Start (row_2 (goal.at.bounds-s-a1 c).Start)).inside

pub overflow_add-v3 : goal.overflow_add-v3
overflow_add-v3 c = (first (goal.at.overflow_add-v3 c).Start (row_3 (goal.at.overflow_add-v3 c).Start)).sum

pub offset_bounds-s-a0-3 : goal.offset_bounds-s-a0-3
offset_bounds-s-a0-3 c = (first (goal.at.offset_bounds-s-a0-3 c).Start (row_3 (goal.at.offset_bounds-s-a0-3 c).Start)).bytes

pub bounds-s-a0-3 : goal.bounds-s-a0-3
bounds-s-a0-3 c = (first (goal.at.bounds-s-a0-3 c).Start (row_3 (goal.at.bounds-s-a0-3 c).Start)).inside

pub overflow_add-v3-2 : goal.overflow_add-v3-2
overflow_add-v3-2 c = (own (goal.at.overflow_add-v3-2 c).Start (row_3 (goal.at.overflow_add-v3-2 c).Start)).sum

pub offset_bounds-s-b-4 : goal.offset_bounds-s-b-4
offset_bounds-s-b-4 c = (own (goal.at.offset_bounds-s-b-4 c).Start (row_3 (goal.at.offset_bounds-s-b-4 c).Start)).bytes

pub bounds-s-b-4 : goal.bounds-s-b-4
bounds-s-b-4 c = (own (goal.at.bounds-s-b-4 c).Start (row_3 (goal.at.bounds-s-b-4 c).Start)).inside

pub overflow_add-w3 : goal.overflow_add-w3
overflow_add-w3 c = (second (goal.at.overflow_add-w3 c).Start (row_3 (goal.at.overflow_add-w3 c).Start)).sum

pub offset_bounds-s-a1-2 : goal.offset_bounds-s-a1-2
offset_bounds-s-a1-2 c = (second (goal.at.offset_bounds-s-a1-2 c).Start (row_3 (goal.at.offset_bounds-s-a1-2 c).Start)).bytes

pub bounds-s-a1-2 : goal.bounds-s-a1-2
bounds-s-a1-2 c = (second (goal.at.bounds-s-a1-2 c).Start (row_3 (goal.at.bounds-s-a1-2 c).Start)).inside

pub overflow_add-u3 : goal.overflow_add-u3
overflow_add-u3 c = (third (goal.at.overflow_add-u3 c).Start (row_3 (goal.at.overflow_add-u3 c).Start)).sum

pub offset_bounds-s-a2 : goal.offset_bounds-s-a2
offset_bounds-s-a2 c = (third (goal.at.offset_bounds-s-a2 c).Start (row_3 (goal.at.offset_bounds-s-a2 c).Start)).bytes

pub bounds-s-a2 : goal.bounds-s-a2
bounds-s-a2 c = (third (goal.at.bounds-s-a2 c).Start (row_3 (goal.at.bounds-s-a2 c).Start)).inside

pub overflow_add-s : goal.overflow_add-s
overflow_add-s c = (own (goal.at.overflow_add-s c).Start (row_1 (goal.at.overflow_add-s c).Start)).sum

pub offset_bounds-s-b-5 : goal.offset_bounds-s-b-5
offset_bounds-s-b-5 c = (own (goal.at.offset_bounds-s-b-5 c).Start (row_1 (goal.at.offset_bounds-s-b-5 c).Start)).bytes

pub bounds-s-b-5 : goal.bounds-s-b-5
bounds-s-b-5 c = (own (goal.at.bounds-s-b-5 c).Start (row_1 (goal.at.bounds-s-b-5 c).Start)).inside

pub overflow_add-s-2 : goal.overflow_add-s-2
overflow_add-s-2 c = (own (goal.at.overflow_add-s-2 c).Start (row_2 (goal.at.overflow_add-s-2 c).Start)).sum

pub offset_bounds-s-b-6 : goal.offset_bounds-s-b-6
offset_bounds-s-b-6 c = (own (goal.at.offset_bounds-s-b-6 c).Start (row_2 (goal.at.offset_bounds-s-b-6 c).Start)).bytes

pub bounds-s-b-6 : goal.bounds-s-b-6
bounds-s-b-6 c = simp length-set (own (goal.at.bounds-s-b-6 c).Start (row_2 (goal.at.bounds-s-b-6 c).Start)).inside

pub overflow_add-s-3 : goal.overflow_add-s-3
overflow_add-s-3 c = (own (goal.at.overflow_add-s-3 c).Start (row_3 (goal.at.overflow_add-s-3 c).Start)).sum

pub offset_bounds-s-b-7 : goal.offset_bounds-s-b-7
offset_bounds-s-b-7 c = (own (goal.at.offset_bounds-s-b-7 c).Start (row_3 (goal.at.offset_bounds-s-b-7 c).Start)).bytes

pub bounds-s-b-7 : goal.bounds-s-b-7
bounds-s-b-7 c = simp length-set (own (goal.at.bounds-s-b-7 c).Start (row_3 (goal.at.bounds-s-b-7 c).Start)).inside
