-- The six bytes one after the other (`head_put`). Assumes nothing.
use native.Mathlib.Omega.{arith}
use borrow.Author.Rules.{rules}
use lib.ListN.{length-set}
use Rattle.panel_file_writer.proofs.Fields.{head_put}
use Rattle.panel_file_writer.proofs.put_head.Goals as goal

pub returns : goal.returns
returns c = let h = head_put c.args.file.now c.args.n c.requires.0 in (search rules, h.0, h.1)

pub bounds-file-1 : goal.bounds-file-1
bounds-file-1 c = simp length-set (omega arith)

pub bounds-file-2 : goal.bounds-file-2
bounds-file-2 c = simp length-set (omega arith)

pub bounds-file-3 : goal.bounds-file-3
bounds-file-3 c = simp length-set (omega arith)

pub bounds-file-4 : goal.bounds-file-4
bounds-file-4 c = simp length-set (omega arith)
