-- Words of the inner functions: how swaps are held, and what finite factors come to.
use Rattle.std.specs.Prelude.{cond, length, take}
use Rattle.finite.specs.Finite.{all_finite}
use Rattle.store.specs.Columns.{flat}
use Rattle.swap_list.specs.SwapList.{Swaps}
use Rattle.factors.specs.Factors.{store_of}
use Rattle.four_by_four.specs.declared.Reduced.{Reduced}
use Rattle.four_by_four.specs.System.{listed, matrix_of, recorded_by}
use Rattle.four_passes.specs.Passes.{is_dead, lower_by, upper_by}
use Rattle.four_pads.specs.declared.Pairs.{Pairs}
use Rattle.four_pads.specs.declared.FourPads.{FourPads}
use Rattle.four_pads.specs.Profile.{refused_with}

-- the swaps of an elimination, as the answer holds them
abbrev pub held_as : Swaps → Pairs
held_as swaps = (length swaps, take 8 (store_of swaps))

-- what finite factors come to
unfoldable pub loaded_by : Reduced → FourPads
loaded_by e =
    let f = e.system in
    let w = recorded_by e.p e.q e.r in
    let x = upper_by f (lower_by f (listed f.x)) in
    cond (is_dead f) (refused_with 6)
    (cond (all_finite x) (record { number = 0; factors = flat (matrix_of f); pairs = length w; swaps = take 8 (store_of w); loads = x }) (refused_with 7))
