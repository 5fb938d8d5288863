-- ROWS AT THE LIMITS, each computed: the page of a plotter (document 02, E1), and document 01's table of kinds. Assumes nothing.
use Rattle.std.specs.Prelude.{◌≡◌, refl, List, [], ◌∷◌, true, false, ℕ, ◌+◌, Float}
use Rattle.std.specs.Int.Count.{count_trailing_zeros}
use Rattle.std.specs.Float.{inf, nan, binary64}
use Rattle.std.specs.Float.Ieee.{of_bits, le, lt, eq, of_fields, odd}
use Rattle.plan.specs.declared.Page.{Page}
use Rattle.plan.specs.Lists.{from, keep}
use Rattle.plan.specs.Kinds.{about, known, allows, bordered}
use Rattle.plan.specs.Pages.{from_to, fair}

-- ---- a page: numbers by their bits
abbrev double : ℕ → Float
double = of_bits binary64

abbrev pub page_of : (pitch margin_x margin_y : ℕ) → Page
page_of p x y = record { pitch = double p; margin_x = double x; margin_y = double y }

-- pitches 0.25 and 16 pass, with margins from −0 to 100, each in x and in y; the next number outside each of these does not, nor an infinity, nor a NaN
pub record PageRows : Type 0 where
  pub least : fair (page_of 0x3fd0_0000_0000_0000 0x8000_0000_0000_0000 0x4059_0000_0000_0000) ≡ true
  pub most : fair (page_of 0x4030_0000_0000_0000 0x4059_0000_0000_0000 0x8000_0000_0000_0000) ≡ true
  pub zeros : fair (page_of 0x4030_0000_0000_0000 0 0) ≡ true
  pub pitch_below : fair (page_of 0x3fcf_ffff_ffff_ffff 0 0) ≡ false
  pub pitch_above : fair (page_of 0x4030_0000_0000_0001 0 0) ≡ false
  pub x_below : fair (page_of 0x4030_0000_0000_0000 0x8000_0000_0000_0001 0) ≡ false
  pub x_above : fair (page_of 0x4030_0000_0000_0000 0x4059_0000_0000_0001 0) ≡ false
  pub y_below : fair (page_of 0x4030_0000_0000_0000 0 0x8000_0000_0000_0001) ≡ false
  pub y_above : fair (page_of 0x4030_0000_0000_0000 0 0x4059_0000_0000_0001) ≡ false
  pub endless : fair (record { pitch = inf false; margin_x = double 0; margin_y = double 0 }) ≡ false
  pub none : fair (record { pitch = nan; margin_x = double 0; margin_y = double 0 }) ≡ false

pub pages : PageRows
unfolding fair from_to le lt eq of_bits of_fields odd count_trailing_zeros
pages = record { least = refl; most = refl; zeros = refl; pitch_below = refl; pitch_above = refl; x_below = refl; x_above = refl; y_below = refl; y_above = refl; endless = refl; none = refl }

-- ---- "kind | sons allowed | border"
-- of 0 to 19 children those that the kind allows,
abbrev pub children_of : ℕ → List ℕ
children_of k = keep (allows k) (from 0 20)

-- and of the widths 0 to 9 those that hold a label of 3 bytes
abbrev pub widths_of : ℕ → List ℕ
widths_of k = keep (bordered k 3) (from 0 10)

pub record KindRows : Type 0 where
  pub step : (children_of 1 ≡ 0 ∷ []) × (widths_of 1 ≡ from (3 + 2) 5)
  pub run : (children_of 2 ≡ from 1 16) × (widths_of 2 ≡ from (3 + 2) 5)
  pub repeat : (children_of 3 ≡ 1 ∷ []) × (widths_of 3 ≡ from (3 + 4) 3)
  pub choice : (children_of 4 ≡ from 2 15) × (widths_of 4 ≡ from (3 + 4) 3)
  pub wait : (children_of 5 ≡ 0 ∷ 1 ∷ []) × (widths_of 5 ≡ from (3 + 2) 5)
  pub others : keep known (from 0 256) ≡ from 1 5

pub kinds : KindRows
unfolding about known allows bordered from keep
kinds = record { step = (refl, refl); run = (refl, refl); repeat = (refl, refl); choice = (refl, refl); wait = (refl, refl); others = refl }
