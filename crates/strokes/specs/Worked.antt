-- Strokes at the call, its questions included: ◆B of document 01, placed as in crate `pen`, on a page of pitch 2 and margins 10 and 0; and what is refused. Assumes nothing.
use Rattle.std.specs.Prelude.{◌≡◌, List, [], ◌∷◌, ℕ, ℤ, pos, negsuc, Result, Ok, Err}
use Rattle.plan.specs.declared.Page.{Page}
use Rattle.plan.specs.declared.Refusal.{Refusal}
use Rattle.pen.specs.declared.Stroke.{Stroke}
use Rattle.pen.specs.declared.Stroke.TheVariants.{Move, Line, Lift}
use Rattle.pen.specs.Worked.{B, BPositions, BPage, whole_number}
use Rattle.strokes.specs.Stroked.{stroked_of}

abbrev pub on_page : Page → ℕ → Result Stroke Refusal
on_page g s = stroked_of B BPositions g s

abbrev pub page_of : (pitch margin_x margin_y : ℕ) → Page
page_of p x y = record { pitch = whole_number p; margin_x = whole_number x; margin_y = whole_number y }

-- cell 2 one square too far to the left
unfoldable pub too_far : List ℤ
too_far = pos 0 ∷ pos 1 ∷ negsuc 3 ∷ pos 3 ∷ negsuc 262143 ∷ pos 3 ∷ []

pub record Rows : Type 0 where
  -- the first stroke, the line of the connector to cell 1, and the last stroke: 9 · 3 − 3 is 24
  pub first : on_page BPage 0 ≡ Ok (Move (whole_number 18) (whole_number 2))
  pub joins : on_page BPage 19 ≡ Ok (Line (whole_number 14) (whole_number 6))
  pub last : on_page BPage 23 ≡ Ok Lift
  pub one_more : on_page BPage 24 ≡ Err (record { number = 18; cell = 0 })
  -- 17, tested before 18: a pitch of 17, a margin of 101 in x and in y
  pub pitch : on_page (page_of 17 10 0) 24 ≡ Err (record { number = 17; cell = 0 })
  pub margin_x : on_page (page_of 2 101 0) 0 ≡ Err (record { number = 17; cell = 0 })
  pub margin_y : on_page (page_of 2 10 101) 0 ≡ Err (record { number = 17; cell = 0 })
  -- 15 before 17, and 1 before both
  pub far : stroked_of B too_far (page_of 17 10 0) 24 ≡ Err (record { number = 15; cell = 2 })
  pub short : stroked_of B (pos 0 ∷ pos 1 ∷ []) (page_of 17 10 0) 24 ≡ Err (record { number = 1; cell = 0 })
