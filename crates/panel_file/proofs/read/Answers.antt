-- The stores for the greatest file hold any. Assumes nothing.
use mathlib.Core.Path.{ap}
use Rattle.panel_file.specs.File.{pads_of}
use Rattle.panel_file.specs.Reading.{Stores, stores, reading, reading_refusal}
use Rattle.panel_file.specs.Inner.{reading_beside}
use Rattle.panel_file.proofs.Reading.{greatest_hold}
use Rattle.panel_file.proofs.read.Goals as goal

pub read_front-requires : goal.read_front-requires
read_front-requires c =
    let g = c.args in
    greatest_hold (pads_of g.file.now) (stores g.matrix.now g.readings.now)

pub returns : goal.returns
unfolding reading reading_refusal reading_beside
returns c =
    record {
      result_value = c.read_front.ensures.result_value;
      matrix_after = ap (λ (s : Stores). s.matrix) c.read_front.ensures.readings_after;
      readings_after = ap (λ (s : Stores). s.readings) c.read_front.ensures.readings_after;
    }
