-- Each arm by the limits that led there. Assumes nothing.
use native.Mathlib.Omega.{arith}
use Rattle.bands.proofs.Banded.{band_0, band_1, band_2, band_3, band_4, band_none}
use Rattle.bands.proofs.band_of.Goals as goal

pub returns-in-0-clause-value : goal.returns-in-0-clause-value
returns-in-0-clause-value c = band_0 _ (omega arith)

pub returns-in-1-to-511-clause-value : goal.returns-in-1-to-511-clause-value
returns-in-1-to-511-clause-value c = band_1 _ (omega arith) (omega arith)

pub returns-in-512-to-1022-clause-value : goal.returns-in-512-to-1022-clause-value
returns-in-512-to-1022-clause-value c = band_2 _ (omega arith) (omega arith)

pub returns-in-1023-to-1534-clause-value : goal.returns-in-1023-to-1534-clause-value
returns-in-1023-to-1534-clause-value c = band_3 _ (omega arith) (omega arith)

pub returns-in-1535-to-2046-clause-value : goal.returns-in-1535-to-2046-clause-value
returns-in-1535-to-2046-clause-value c = band_4 _ (omega arith) (omega arith)

pub returns-in_default-clause-value : goal.returns-in_default-clause-value
returns-in_default-clause-value c = band_none _ (omega arith)
