-- Worked rows: document 01's sheets ◆E and ◆F in frames, the questions included. Each is checked by computation of two sheets. Assumes nothing.
use Rattle.std.specs.Prelude.{◌≡◌, true, false, ℕ, suc, ◌<◌, replicate, T, Some, None, Ok}
use Rattle.std.proofs.Math.Path.{refl}
use Rattle.std.proofs.Common.{sym, ap, ◌∙◌, arith}
use Rattle.std.proofs.lemmas.List.{length-replicate}
use Rattle.plan.specs.Limits.{most_allowance, scratch_size}
use Rattle.plan.specs.Lists as lists
use Rattle.plan.specs.Kinds as kinds
use Rattle.plan.specs.Questions as asked
use Rattle.plan.specs.Questions.{refusal, frame, frame_given}
use Rattle.plan.specs.Plan as plan
use Rattle.plan.specs.Plan.{Table}
use Rattle.plan.specs.Fit.{Fit}
use Rattle.rules.specs.Placement as placement
use Rattle.contours.specs.Contour as contour
use Rattle.contours.specs.Sheet as ours
use Rattle.least.specs.Frame.{fits, least_allowance}
use Rattle.least.proofs.Laws.Frame.{fits_wider, Halved, halved_done}
use Rattle.least.specs.Worked.{ranked, chosen, planned, E, F}
use Rattle.plan.proofs.Laws.Answered.{answered_none}
use Rattle.fitting.specs.Fitted.{told, fitted_of}
use Rattle.fitting.proofs.Laws.Fitted.{asks, told-found, told_none, holds}
use Rattle.fitting.specs.Worked.{gives, Rows}

module _ (t : Table) (f : ℕ) (z : (refusal frame (frame_given t f scratch_size)).number ≡ 0) where
  fit : Fit t
  fit = (asks t f (replicate scratch_size 0) (rw (length-replicate {A = ℕ} scratch_size 0) z)).0

  told-it : gives t f ≡ Ok (told (least_allowance t f))
  unfolding gives fitted_of
  told-it = answered_none _ _ z

  -- 0 fits
  gives_0 : fits t f 0 ≡ true → gives t f ≡ Ok (Some 0)
  gives_0 e =
      let h : Halved t fit.some_cell fit.sound f 0 0 = record { order = omega arith; most = omega arith; wide_below = λ b l _. omega arith; hi_fits = holds _ e } in
      told-it ∙ ap Ok (sym (told-found _ 0 (halved_done t fit.some_cell fit.sound f 0 0 h (omega arith))))

  -- b is too wide, the next fits
  gives-next : (b : ℕ) → b < most_allowance → fits t f b ≡ false → fits t f (suc b) ≡ true → gives t f ≡ Ok (Some (suc b))
  gives-next b l w e =
      let no : ¬ T (fits t f b) = λ h. rw w at h in
      let h : Halved t fit.some_cell fit.sound f (suc b) (suc b) =
      record { order = omega arith; most = omega arith; wide_below = λ a k n. no (fits_wider t fit.some_cell fit.sound f a b (omega arith) n); hi_fits = holds _ e } in
      told-it ∙ ap Ok (sym (told-found _ (suc b) (halved_done t fit.some_cell fit.sound f (suc b) (suc b) h (omega arith))))

  -- 65,535 is too wide
  gives_none : fits t f most_allowance ≡ false → gives t f ≡ Ok None
  gives_none e = told-it ∙ ap Ok (sym (told_none t f fit e))

pub worked : Rows
unfolding fits E F ranked chosen planned refusal frame_given asked.take_steps asked.take_step asked.put asked.with_each asked.kept asked.sequence asked.ask_all asked.ask asked.at_each asked.holds asked.puts asked.number asked.roomy asked.all_roomy asked.enough asked.in_file asked.lower asked.sized asked.framed asked.asked asked.or_else asked.answered kinds.about kinds.known kinds.allows lists.index lists.from lists.keep lists.insert lists.sort lists.some lists.mem lists.ahead_in lists.heads lists.next_in lists.total plan.blank plan.parent plan.kind plan.box_width plan.box_depth plan.rank plan.cells plan.filed plan.children plan.child plan.appointed plan.climb plan.path plan.within plan.subtree plan.row plan.level plan.ahead plan.next plan.earlier placement.best placement.right placement.base placement.bottom placement.width contour.greatest contour.cover contour.clash contour.separation contour.stride contour.offset contour.lefts contour.rights contour.contour ours.middle ours.around ours.trace ours.contours ours.shift ours.along ours.column ours.sheet gives fitted_of asked.widest_in
worked =
    record {
      e_0 = refl;
      e_8 = gives_none E 8 refl refl;
      e_9 = gives-next E 9 refl 3 (omega arith) refl refl;
      e_10 = gives-next E 10 refl 2 (omega arith) refl refl;
      e_12 = gives-next E 12 refl 0 (omega arith) refl refl;
      e_13 = gives_0 E 13 refl refl;
      e_most = gives_0 E 4294967295 refl refl;
      f_24 = gives_none F 24 refl refl;
      f_25 = gives-next F 25 refl 2 (omega arith) refl refl;
      f_29 = gives-next F 29 refl 0 (omega arith) refl refl;
    }
