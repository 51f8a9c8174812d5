-- Both columns are copied out, and each is written over the other. Assumes nothing.
use Prim.Native.Nat.{◌*◌, ◌+◌, ◌-◌}
use mathlib.Core.Path.{◌∙◌}
use borrow.Rule.Slice.PartMut.{same_len_mid}
use lib.Ieee.{Float}
use Rattle.store.proofs.Steps.{columns_exchanged}
use Rattle.store.proofs.swap_columns_by.Goals as goal

-- the two copies into the store keep its length
pub shape_of-s : goal.shape_of-s
shape_of-s c =
    let g = c.args in
    same_len_mid {X = Float} (g.j * g.m) (g.j * g.m + g.m - g.j * g.m) _ c.copy-4.new.dst c.copy-4.auto.dst
    ∙ same_len_mid {X = Float} (g.i * g.m) (g.i * g.m + g.m - g.i * g.m) _ c.copy-3.new.dst c.copy-3.auto.dst

pub returns : goal.returns
returns c =
    columns_exchanged _ _ _ _ _ _ _ _ _ _ _ c.requires.i_lt_n.0 c.requires.i_lt_n.1 c.requires.s_len.0 c.requires.s_len.1 c.requires.s_len.2 c.copy.ensures
    c.copy-2.ensures
    c.copy-3.auto.dst c.copy-3.ensures c.copy-4.auto.dst c.copy-4.ensures
