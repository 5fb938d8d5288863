-- The refusals of the calls on a lent table, as their code puts the questions. Assumes nothing.
use Rattle.std.specs.Prelude.{◌≡◌, List, Bool, true, false, ◌&&◌, ℕ, leb, length, ℤ}
use Rattle.std.proofs.Math.Path.{refl, sym}
use Rattle.std.proofs.Common.{ap, ◌∙◌, arith, eq-eqb, ne_eqb, ltb-true}
use Rattle.plan.specs.declared.Refusal.{Refusal}
use Rattle.plan.proofs.Laws.Questions.{first_some, each-one}
use Rattle.std.proofs.Math.Dec.{ltb}
use Rattle.plan.specs.Limits.{scratch_size, second_size, listing_size, most_allowance, most_steps, most_answers}
use Rattle.plan.specs.Lists.{some, mem}
use Rattle.plan.specs.Plan.{Table}
use Rattle.plan.specs.Pages.{fair}
use Rattle.plan.specs.declared.Page.{Page}
use Rattle.plan.specs.Questions.{roomy, all_roomy, enough, in_table, in_file, sequence, puts, put, with_each, kept, number, holds, ask, none, asked, or_else, framed, on_page, strokes_of, numbered, refusal, layout, check, ends, list, frame, stroke, strip, layout_given, check_given, ends_given, list_given, frame_given, stroke_given, strip_given, answerable, drill, drill_given, reach_of, finished_at, at_each, start, step, reach, start_given, step_given, reach_given, mark, mark_given}
use Rattle.plan.proofs.Laws.Kept.{asked_last, asked_true, and_true, or_assoc, none_first, each_last, refusal-kept, turn_ends, turn_once, turn_table, turn_near, turn_finished}
use Rattle.plan.specs.Steps.{counted_refusal, lent_refusal, near_refusal}

near_last : (ps : List ℤ) (n : ℕ) → or_else (near_refusal ps n) none ≡ near_refusal ps n
unfolding near_refusal
near_last ps n = each_last _ 0 n (λ c. asked_last 14 _ c)

module _ (t : Table) where
  pub layout-refusal : (al s p : ℕ) → refusal layout (layout_given t al s p) ≡ or_else (asked 1 (leb scratch_size s) 0) (or_else (lent_refusal t p) (asked 14 (leb al most_allowance) 0))
  unfolding kept put with_each sequence number puts mem some ask holds roomy all_roomy enough in_file lent_refusal layout_given
  layout-refusal al s p =
      let g = layout_given t al s p in
      refusal-kept layout g ∙ simp (turn_once g, turn_table g refl, turn_ends g, and_true, or_assoc, asked_last 13 (leb al most_allowance) 0)

  pub check-refusal : (al : ℕ) (ps : List ℤ) → refusal check (check_given t al ps) ≡ or_else (lent_refusal t (length ps)) (or_else (asked 14 (leb al most_allowance) 0) (near_refusal ps (length t)))
  unfolding kept put with_each sequence number puts mem some ask holds all_roomy enough in_file lent_refusal check_given
  check-refusal al ps =
      let g = check_given t al ps in
      refusal-kept check g
      ∙ simp (turn_once g, turn_table g refl, turn_near g, turn_ends g, asked_true 0 0, none_first, and_true, or_assoc, near_last ps (length t))

  pub ends-refusal : (ps : List ℤ) (c : ℕ) → refusal ends (ends_given t ps c)
      ≡ or_else (lent_refusal t (length ps)) (or_else (near_refusal ps (length t)) (asked 16 (ltb c (length t) && ltb 0 c) 0))
  unfolding kept put with_each sequence number puts mem some ask holds all_roomy enough in_table in_file lent_refusal ends_given
  ends-refusal ps c =
      let g = ends_given t ps c in
      refusal-kept ends g
      ∙ simp (turn_once g, turn_table g refl, turn_near g, turn_ends g, asked_true 0 0, none_first, and_true, or_assoc, asked_last 15 (ltb c (length t) && ltb 0 c) 0)

  -- document 02, E2: 19 right behind 13
  pub frame-refusal : (f s : ℕ) → refusal frame (frame_given t f s) ≡ or_else (asked 1 (leb scratch_size s) 0) (or_else (counted_refusal t) (asked 19 (leb 1 f) 0))
  unfolding kept put with_each sequence number puts mem some ask holds roomy all_roomy enough framed in_file counted_refusal frame_given
  frame-refusal f s =
      let g = frame_given t f s in
      refusal-kept frame g ∙ simp (turn_once g, turn_table g refl, turn_ends g, asked_true 0 0, none_first, and_true, or_assoc, asked_last 18 (leb 1 f) 0)

  -- document 02, E1: 17 behind 16, and 18 last
  pub stroke-refusal : (ps : List ℤ) (g : Page) (s : ℕ) → refusal stroke (stroke_given t ps g s)
      ≡ or_else (lent_refusal t (length ps)) (or_else (near_refusal ps (length t)) (or_else (asked 17 (fair g) 0) (asked 18 (ltb s (strokes_of (length t))) 0)))
  unfolding kept put with_each sequence number puts mem some ask holds all_roomy enough on_page numbered in_file lent_refusal stroke_given
  stroke-refusal ps g s =
      let v = stroke_given t ps g s in
      refusal-kept stroke v
      ∙ simp (turn_once v, turn_table v refl, turn_near v, turn_ends v, asked_true 0 0, none_first, and_true, or_assoc, asked_last 17 (ltb s (strokes_of (length t))) 0)

  -- document 02, E8
  pub strip-refusal : (ps : List ℤ) → refusal strip (strip_given t ps) ≡ or_else (lent_refusal t (length ps)) (near_refusal ps (length t))
  unfolding kept put with_each sequence number puts mem some ask holds all_roomy enough in_file lent_refusal strip_given
  strip-refusal ps =
      let v = strip_given t ps in
      refusal-kept strip v
      ∙ simp (turn_once v, turn_table v refl, turn_near v, turn_ends v, asked_true 0 0, none_first, and_true, or_assoc, near_last ps (length t))

  -- document 02, E12: 21 right behind 13
  pub drill-refusal : (a l : ℕ) → refusal drill (drill_given t a l) ≡ or_else (asked 1 (leb most_steps l) 0) (or_else (counted_refusal t) (asked 21 (leb a most_answers) 0))
  unfolding kept put with_each sequence number puts mem some ask holds roomy all_roomy enough answerable in_file counted_refusal drill_given
  drill-refusal a l =
      let g = drill_given t a l in
      refusal-kept drill g ∙ simp (turn_once g, turn_table g refl, turn_ends g, asked_true 0 0, none_first, and_true, or_assoc, asked_last 20 (leb a most_answers) 0)

-- the listing puts one question, and has no table to put the others to
pub list-refusal : (room : ℕ) → refusal list (list_given room) ≡ asked 1 (leb listing_size room) 0
unfolding kept put with_each sequence number puts mem some ask holds roomy all_roomy enough list_given
list-refusal room =
    let g = list_given room in
    refusal-kept list g ∙ simp (turn_once g, turn_ends g, asked_true 0 0, none_first, and_true, asked_last 0 (leb listing_size room) 0)

-- ---- document 02, E9: a sheet that is being made
-- 1, of two scratches
both-roomy : (a b : Bool) (r : Refusal) → or_else (asked 1 (a && b) 0) r ≡ or_else (asked 1 b 0) (or_else (asked 1 a 0) r)
unfolding asked
both-roomy true true r = sym (none_first (or_else none r))
both-roomy true false r = ap (or_else (record { number = 1; cell = 0 })) (sym (none_first r))
both-roomy false true r = sym (none_first (or_else (record { number = 1; cell = 0 }) r))
both-roomy false false r =
    first_some (record { number = 1; cell = 0 }) r (omega arith) ∙ sym (first_some (record { number = 1; cell = 0 }) (or_else (record { number = 1; cell = 0 }) r) (omega arith))

-- 20, of the one cell that is asked for
abbrev finished_of : List ℕ → ℕ → ℕ → Refusal
finished_of finished c i = asked 20 (finished_at (reach_of finished c) i) i

finished_own : (finished : List ℕ) (c : ℕ) → finished_of finished c c ≡ asked 20 (mem c finished) c
unfolding finished_at
finished_own finished c = rw (eq-eqb c c refl)

finished-other : (finished : List ℕ) (c i : ℕ) → ¬ (i ≡ c) → finished_of finished c i ≡ none
unfolding finished_at
finished-other finished c i ne = rw (ne_eqb i c ne) (asked_true 19 i)

finished-one : (finished : List ℕ) (c n : ℕ) → or_else (asked 16 (ltb c n) 0) (at_each (finished_of finished c) 0 n) ≡ or_else (asked 16 (ltb c n) 0) (asked 20 (mem c finished) c)
finished-one finished c n = go (ltb c n) refl
  where
    stop : (x y : Refusal) → or_else (asked 16 false 0) x ≡ or_else (asked 16 false 0) y
    stop x y = unfold asked in (first_some (record { number = 16; cell = 0 }) x (omega arith) ∙ sym (first_some (record { number = 16; cell = 0 }) y (omega arith)))

    go : (b : Bool) → ltb c n ≡ b → or_else (asked 16 b 0) (at_each (finished_of finished c) 0 n) ≡ or_else (asked 16 b 0) (asked 20 (mem c finished) c)
    go true e = ap (or_else (asked 16 true 0)) (each-one (finished_of finished c) c (finished-other finished c) (asked_last 19 _ c) n (ltb-true c n e) ∙ finished_own finished c)
    go false e = stop _ _

module _ (t : Table) (al s m : ℕ) where
  pub start-refusal : refusal start (start_given t al s m)
      ≡ or_else (asked 1 (leb second_size m) 0) (or_else (asked 1 (leb scratch_size s) 0) (or_else (counted_refusal t) (asked 14 (leb al most_allowance) 0)))
  unfolding kept put with_each sequence number puts mem some ask holds roomy all_roomy enough in_file counted_refusal start_given
  start-refusal =
      let g = start_given t al s m in
      refusal-kept start g
      ∙ simp (turn_once g, turn_table g refl, turn_ends g, asked_true 0 0, none_first, and_true, both-roomy, or_assoc, asked_last 13 (leb al most_allowance) 0)

  -- as Layout, behind the second scratch
  pub step-refusal : (p : ℕ) → refusal step (step_given t al s m p) ≡ or_else (asked 1 (leb second_size m) 0) (refusal layout (layout_given t al s p))
  unfolding kept put with_each sequence number puts mem some ask holds roomy all_roomy enough in_file lent_refusal step_given
  step-refusal p =
      let g = step_given t al s m p in
      refusal-kept step g
      ∙ simp (turn_once g, turn_table g refl, turn_ends g, and_true, both-roomy, or_assoc, layout-refusal t al s p, asked_last 13 (leb al most_allowance) 0)

  -- as a start, then 16 and 20 of the cell c
  pub reach-refusal : (finished : List ℕ) (c : ℕ) → refusal reach (reach_given t al s m finished c)
      ≡ or_else (refusal start (start_given t al s m)) (or_else (asked 16 (ltb c (length t)) 0) (asked 20 (mem c finished) c))
  unfolding kept put with_each sequence number puts mem some ask holds roomy all_roomy enough in_file in_table counted_refusal reach_given
  reach-refusal finished c =
      let g = reach_given t al s m finished c in
      refusal-kept reach g
      ∙ simp (turn_once g, turn_table g refl, turn_finished g, asked_true 0 0, none_first, and_true, both-roomy, or_assoc, start-refusal, finished-one finished c (length t))

-- an examiner's mark: as Check, behind the scratch
pub mark-refusal : (t : Table) (ps : List ℤ) (al s : ℕ) → refusal mark (mark_given t ps al s) ≡ or_else (asked 1 (leb scratch_size s) 0) (refusal check (check_given t al ps))
unfolding kept put with_each sequence number puts mem some ask holds roomy all_roomy enough in_file lent_refusal mark_given
mark-refusal t ps al s =
    let g = mark_given t ps al s in
    refusal-kept mark g ∙ simp (turn_once g, turn_table g refl, turn_near g, turn_ends g, and_true, or_assoc, check-refusal t al ps, near_last ps (length t))
