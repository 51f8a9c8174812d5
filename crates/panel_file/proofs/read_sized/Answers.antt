-- Another size, or a file that is read like any other into stores of its own size. Assumes nothing.
use mathlib.Core.Path.{◌≡◌, refl, sym, ap, ◌∙◌}
use mathlib.Core.Bool.{Bool, ◌&&◌}
use Prim.Native.Nat.{◌*◌}
use lib.Dec.{eqb}
use lib.ListN.{length}
use Rattle.panel_file.specs.File.{pads_of}
use Rattle.panel_file.specs.Reading.{stores}
use Rattle.panel_file.specs.Inner.{reading_beside}
use Rattle.panel_file.proofs.Reading.{own_hold, sized_other, own_fit, sized_own}
use Rattle.panel_file.proofs.read_sized.Goals.{Else-is_headed-pads}
use Rattle.panel_file.proofs.read_sized.Goals as goal

-- the test of the stores, by the size that the file tells
own_fit_is : (c : Else-is_headed-pads) → let g = c.args in let pads = c.pads_of-pads.result in
    (eqb (length g.matrix.now) (pads * pads) && eqb (length g.readings.now) pads) ≡ own_fit g.file.now g.n (stores g.matrix.now g.readings.now)
own_fit_is c = rw c.pads_of-pads.ensures.0 refl

pub returns-then-is_headed-pads : goal.returns-then-is_headed-pads
returns-then-is_headed-pads c =
    let g = c.args in
    let other = sized_other g.file.now g.n (stores g.matrix.now g.readings.now)
    (rw (c.is_headed.ensures, c.pads_of-pads.ensures.0) at c.if-is_headed-pads.true) in
    record { result_value = rw other refl; readings_after = rw other refl }

pub read_front-requires : goal.read_front-requires
read_front-requires c =
    let g = c.args in
    λ fit _. own_hold (pads_of g.file.now) (stores g.matrix.now g.readings.now) (sym (own_fit_is (goal.at.read_front-requires c).Else-is_headed-pads) ∙ fit)

pub returns : goal.returns
returns c =
    let g = c.args in
    let s = stores g.matrix.now g.readings.now in
    let own = sized_own g.file.now g.n s (rw (c.is_headed.ensures, c.pads_of-pads.ensures.0) at c.if-is_headed-pads.false)
    ∙ ap (λ (fit : Bool). reading_beside fit g.file.now s) (sym (own_fit_is (goal.at.returns c).Else-is_headed-pads)) in
    record { result_value = rw own c.read_front.ensures.result_value; readings_after = rw own c.read_front.ensures.readings_after }
