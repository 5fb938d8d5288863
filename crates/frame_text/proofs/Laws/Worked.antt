-- Lines of document 01's ◆E and ◆F, each computed from what Frame answers of them. Assumes nothing.
use Rattle.std.specs.Prelude.{◌≡◌, refl, [], ◌∷◌, ℕ, Option, Some, None, Result, Ok, Err}
use Rattle.std.proofs.Common.{ap, ◌∙◌}
use Rattle.plan.specs.Lists as lists
use Rattle.plan.specs.Plan as plan
use Rattle.plan.specs.Plan.{Table}
use Rattle.rules.specs.Placement as placement
use Rattle.contours.specs.Contour as contour
use Rattle.contours.specs.Sheet as ours
use Rattle.least.specs.Worked.{ranked, chosen, planned, E, F}
use Rattle.plan.specs.declared.Refusal.{Refusal}
use Rattle.fitting.specs.Worked.{gives}
use Rattle.fitting.proofs.Laws.Worked.{worked}
use Rattle.listing.specs.Printed as printed
use Rattle.frame_text.specs.FrameText.{sheet_fields, allowance_line, none_line, measures_of, fitted_line, answer_line}

told : (t : Table) (n : ℕ) (r : Result (Option ℕ) Refusal) → gives t n ≡ r → answer_line t n ≡ fitted_line t r
unfolding answer_line gives
told t n r e = ap (fitted_line t) e

line-f : fitted_line F (Ok (Some 3)) ≡ 97 ∷ 108 ∷ 108 ∷ 111 ∷ 119 ∷ 97 ∷ 110 ∷ 99 ∷ 101 ∷ 32 ∷ 51 ∷ 32 ∷ 119 ∷ 105 ∷ 100 ∷ 116 ∷ 104 ∷ 32 ∷ 50 ∷ 53 ∷ 32 ∷ 114 ∷ 111 ∷ 119 ∷ 115 ∷ 32 ∷ 49 ∷ 48 ∷ 10 ∷ []
unfolding E F ranked chosen planned lists.index lists.from lists.keep lists.insert lists.sort lists.some lists.mem lists.ahead_in lists.heads lists.next_in lists.total plan.blank plan.parent plan.kind plan.box_width plan.box_depth plan.rank plan.cells plan.filed plan.children plan.child plan.appointed plan.climb plan.path plan.within plan.subtree plan.row plan.level plan.ahead plan.next plan.earlier placement.best placement.right placement.base placement.bottom placement.width placement.rows contour.greatest contour.cover contour.clash contour.separation contour.stride contour.offset contour.lefts contour.rights contour.contour ours.middle ours.around ours.trace ours.contours ours.shift ours.along ours.column ours.sheet sheet_fields allowance_line none_line measures_of fitted_line printed.line printed.decimal printed.digits printed.refused_line
line-f = refl

line_e : fitted_line E (Ok None) ≡ 110 ∷ 111 ∷ 110 ∷ 101 ∷ 32 ∷ 119 ∷ 105 ∷ 100 ∷ 116 ∷ 104 ∷ 32 ∷ 57 ∷ 32 ∷ 114 ∷ 111 ∷ 119 ∷ 115 ∷ 32 ∷ 54 ∷ 10 ∷ []
unfolding E F ranked chosen planned lists.index lists.from lists.keep lists.insert lists.sort lists.some lists.mem lists.ahead_in lists.heads lists.next_in lists.total plan.blank plan.parent plan.kind plan.box_width plan.box_depth plan.rank plan.cells plan.filed plan.children plan.child plan.appointed plan.climb plan.path plan.within plan.subtree plan.row plan.level plan.ahead plan.next plan.earlier placement.best placement.right placement.base placement.bottom placement.width placement.rows contour.greatest contour.cover contour.clash contour.separation contour.stride contour.offset contour.lefts contour.rights contour.contour ours.middle ours.around ours.trace ours.contours ours.shift ours.along ours.column ours.sheet sheet_fields allowance_line none_line measures_of fitted_line printed.line printed.decimal printed.digits printed.refused_line
line_e = refl

line_0 : fitted_line E (Err (record { number = 19; cell = 0 })) ≡ 114 ∷ 101 ∷ 102 ∷ 117 ∷ 115 ∷ 101 ∷ 100 ∷ 32 ∷ 49 ∷ 57 ∷ 32 ∷ 48 ∷ 10 ∷ []
unfolding fitted_line printed.line printed.decimal printed.digits printed.refused_line
line_0 = refl

pub f_25 : answer_line F 25 ≡ 97 ∷ 108 ∷ 108 ∷ 111 ∷ 119 ∷ 97 ∷ 110 ∷ 99 ∷ 101 ∷ 32 ∷ 51 ∷ 32 ∷ 119 ∷ 105 ∷ 100 ∷ 116 ∷ 104 ∷ 32 ∷ 50 ∷ 53 ∷ 32 ∷ 114 ∷ 111 ∷ 119 ∷ 115 ∷ 32 ∷ 49 ∷ 48 ∷ 10 ∷ []
f_25 = told F 25 (Ok (Some 3)) worked.f_25 ∙ line-f

pub e_8 : answer_line E 8 ≡ 110 ∷ 111 ∷ 110 ∷ 101 ∷ 32 ∷ 119 ∷ 105 ∷ 100 ∷ 116 ∷ 104 ∷ 32 ∷ 57 ∷ 32 ∷ 114 ∷ 111 ∷ 119 ∷ 115 ∷ 32 ∷ 54 ∷ 10 ∷ []
e_8 = told E 8 (Ok None) worked.e_8 ∙ line_e

pub e_0 : answer_line E 0 ≡ 114 ∷ 101 ∷ 102 ∷ 117 ∷ 115 ∷ 101 ∷ 100 ∷ 32 ∷ 49 ∷ 57 ∷ 32 ∷ 48 ∷ 10 ∷ []
e_0 = told E 0 (Err (record { number = 19; cell = 0 })) worked.e_0 ∙ line_0
