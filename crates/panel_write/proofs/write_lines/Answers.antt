-- The length, then the lines. Assumes nothing.
use mathlib.Core.Path.{refl, sym}
use Prim.Native.Nat.{◌*◌, ◌≤◌}
use native.Mathlib.Omega.{arith}
use lib.Seq.{length-take-le}
use Rattle.panel_file.proofs.Reading.{square}
use Rattle.panel_write.specs.Text.{other}
use Rattle.panel_write.proofs.write_lines.Goals.{Start}
use Rattle.panel_write.proofs.write_lines.Goals as goal

entries : (c : Start) → c.args.n * c.args.n ≤ 4096
entries c = square c.args.n 64 c.requires.0

pub returns-then-lines-entries : goal.returns-then-lines-entries
returns-then-lines-entries c = other (λ l. c.if-lines-entries.true l.0) refl

pub slice_bounds-write_filled-end : goal.slice_bounds-write_filled-end
slice_bounds-write_filled-end c = omega (arith, c.requires.1, entries (goal.at.slice_bounds-write_filled-end c).Start)

pub slice_bounds-write_filled-end-2 : goal.slice_bounds-write_filled-end-2
slice_bounds-write_filled-end-2 c =
    sym (length-take-le _ _ (omega (arith, c.requires.1, entries (goal.at.slice_bounds-write_filled-end-2 c).Start)))

pub slice_bounds-write_filled-end-4 : goal.slice_bounds-write_filled-end-4
slice_bounds-write_filled-end-4 c = sym (length-take-le _ _ (omega (arith, c.requires.0, c.requires.2)))

pub write_filled-requires : goal.write_filled-requires
write_filled-requires c = (
  c.requires.0,
  c.if-lines-entries.false,
  length-take-le _ _ (omega (arith, c.requires.1, entries (goal.at.write_filled-requires c).Start)),
  length-take-le _ _ (omega (arith, c.requires.0, c.requires.2)),
)

pub overflow_mul-entries : goal.overflow_mul-entries
overflow_mul-entries c = omega (arith, entries (goal.at.overflow_mul-entries c).Start)

pub overflow_add-entries : goal.overflow_add-entries
overflow_add-entries c = omega (arith, entries (goal.at.overflow_add-entries c).Start)

pub overflow_mul-entries-2 : goal.overflow_mul-entries-2
overflow_mul-entries-2 c = omega (arith, entries (goal.at.overflow_mul-entries-2 c).Start)
