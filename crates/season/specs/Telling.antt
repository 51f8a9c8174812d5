-- What one panel file brings to a season (document 02, request 13): the pads that its ranking lists and the band of its crossing, or the refusal that the
-- answer for it gives.
use Rattle.std.specs.Prelude.{ℕ, false, List, length, Result, Ok, Err}
use Rattle.numbers.specs.Column.{Column}
use Rattle.refusals.specs.declared.Refusal.{Refusal}
use Rattle.refusals.specs.Outcome.{Outcome, done, refused, number, and_then}
use Rattle.ranking.specs.Ranking.{loaded, listing}
use Rattle.bands.specs.Bands.{band_on, band_number}
use Rattle.panel_file.specs.File.{pads_of, readings_of}
use Rattle.crossing.specs.Below.{Packed, solution_by}
use Rattle.crossing.specs.Factors.{factors_in}
use Rattle.season.specs.declared.Crossing.{Crossing}

pub record Share : Type 0 where
  pub pads : ℕ
  pub band : ℕ

-- "the pads listed without idle ones", x being the loads; and the band of the factors
abbrev pub share_of : Packed → Column → Share
share_of f x = record { pads = length (listing (loaded x) x f.told.rows); band = band_on f.factors f.told.rows }

-- "Only files whose solve is accepted": refused by the file's tests, by factoring, or by the solve for its readings
unfoldable pub telling : List ℕ → Outcome Share
telling bytes = and_then (factors_in bytes) (λ f. and_then (solution_by false f (readings_of (pads_of bytes) bytes)) (λ x. done (share_of f x)))

-- what each case of the answer stands for
abbrev pub share_told : Result Crossing Refusal → Outcome Share
share_told (Ok c) = done (record { pads = c.pads; band = band_number c.band })
share_told (Err refusal) = refused (number refusal)
