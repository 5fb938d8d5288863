-- Reports and pools by hand: the sheets ◆A, ◆B and ◆C of document 01, and every question at its limit and one past it. Assumes nothing.
use Rattle.std.specs.Prelude.{◌≡◌, [], ◌∷◌, ℕ, Ok}
use Rattle.season.specs.declared.Report.{Report}
use Rattle.season.specs.Report.{Figure, report, nothing}
use Rattle.season.specs.Pool.{pool, refuses, folder, Files}

abbrev pub A : Figure
A = record { cells = 1; width = 5; rows = 2 }

abbrev pub B : Figure
B = record { cells = 3; width = 9; rows = 4 }

abbrev pub C : Figure
C = record { cells = 4; width = 11; rows = 4 }

-- a report that somebody made up: plans, cells, sum of widths, sum of width times rows; and so many of the rest
abbrev pub made_up : (plans cells widths areas others : ℕ) → Report
made_up p c w a o = record { plans = p; cells = c; widths = w; areas = a; least = o; greatest = o; mean = o; rest = o }

-- a report of no plan that somebody made up: its other seven figures
abbrev pub no_plan : (cells widths areas least greatest mean rest : ℕ) → Report
no_plan c w a l g m r = record { plans = 0; cells = c; widths = w; areas = a; least = l; greatest = g; mean = m; rest = r }

pub record Rows : Type 0 where
  pub three : report (A ∷ B ∷ C ∷ []) ≡ record { plans = 3; cells = 8; widths = 25; areas = 90; least = 5; greatest = 11; mean = 8; rest = 1 }
  pub two_and_one : pool (report (B ∷ C ∷ [])) (report (A ∷ [])) ≡ Ok (report (A ∷ B ∷ C ∷ []))
  pub most : pool (made_up 1024 262144 268434432 68719214592 9) nothing ≡ Ok (record { plans = 1024; cells = 262144; widths = 268434432; areas = 68719214592; least = 9; greatest = 9; mean = 262143; rest = 0 })
  pub cells_past : pool (made_up 1024 262145 268434432 68719214592 9) nothing ≡ refuses 22
  pub widths_past : pool (made_up 1024 262144 268434433 68719214592 9) nothing ≡ refuses 22
  pub areas_past : pool (made_up 1024 262144 268434432 68719214593 9) nothing ≡ refuses 22
  pub plans_past : pool (made_up 1025 0 0 0 0) nothing ≡ refuses 22
  -- no plan, and one figure that is not 0: each of the seven
  pub no_cells : pool (made_up 1 0 0 0 0) (no_plan 1 0 0 0 0 0 0) ≡ refuses 22
  pub no_widths : pool (made_up 1 0 0 0 0) (no_plan 0 1 0 0 0 0 0) ≡ refuses 22
  pub no_areas : pool (made_up 1 0 0 0 0) (no_plan 0 0 1 0 0 0 0) ≡ refuses 22
  pub no_least : pool (made_up 1 0 0 0 0) (no_plan 0 0 0 1 0 0 0) ≡ refuses 22
  pub no_greatest : pool (made_up 1 0 0 0 0) (no_plan 0 0 0 0 1 0 0) ≡ refuses 22
  pub no_mean : pool (made_up 1 0 0 0 0) (no_plan 0 0 0 0 0 1 0) ≡ refuses 22
  pub no_rest : pool (made_up 1 0 0 0 0) (no_plan 0 0 0 0 0 0 1) ≡ refuses 22
  pub no_figure : pool (made_up 1 0 0 0 0) (no_plan 0 0 0 0 0 0 0) ≡ Ok (made_up 1 0 0 0 0)
  pub halves : pool (made_up 512 0 0 0 0) (made_up 512 0 0 0 0) ≡ Ok (made_up 1024 0 0 0 0)
  pub one_more : pool (made_up 512 0 0 0 0) (made_up 513 0 0 0 0) ≡ refuses 4
  pub both : pool (made_up 1024 0 0 0 0) (made_up 1025 0 0 0 0) ≡ refuses 22
  -- a folder of three files, of which the second is refused
  pub in_turn : folder (Ok (report (A ∷ [])) ∷ refuses 4 ∷ Ok (report (B ∷ [])) ∷ []) ≡ Ok (report (A ∷ B ∷ []))
  pub files : Files (Ok (report (A ∷ [])) ∷ refuses 4 ∷ Ok (report (B ∷ [])) ∷ []) (A ∷ B ∷ [])
