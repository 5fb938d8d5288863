-- From the questions and Check's answer to the mark: for the code. Nothing that a reader must believe stands here. Assumes nothing.
use Rattle.std.proofs.Math.Path.{◌≡◌, refl, ap, sym}
use Rattle.std.proofs.Common.{◌∙◌, leb→le}
use Rattle.std.specs.Prelude.{List, ◌++◌, Bool, true, cond, ℕ, ◌≤◌, ◌<◌, length, drop, replicate, leb, ℤ, Result, Ok, Err, IsErrAnd, ⊤}
use Rattle.std.proofs.Math.Bool.{false}
use borrow.Author.Tests.{le-leb, lt-leb}
use Rattle.whole.specs.Whole.{plus}
use Rattle.plan.specs.Limits.{scratch_size}
use Rattle.plan.specs.Plan.{Table}
use Rattle.plan.specs.Fit.{Fit}
use Rattle.plan.specs.Questions.{mark, check, refusal, mark_given, check_given, asked, or_else, passed}
use Rattle.plan.specs.Questions as questions
use Rattle.plan.proofs.Laws.Questions.{both-none, asked_yes}
use Rattle.plan.proofs.Laws.Answered.{answered_none, answered_some, refused_by, not_refused, answers_err, err_stops, passes}
use Rattle.plan.proofs.Laws.Kept.{none_first}
use Rattle.plan.proofs.Laws.Calls.{mark-refusal}
use Rattle.plan.specs.declared.Breach.{Breach}
use Rattle.plan.specs.declared.Measures.{Measures}
use Rattle.plan.specs.declared.Refusal.{Refusal}
use Rattle.rules.specs.Placement.{placed}
use Rattle.rules.specs.Verdict.{Answer, fine, faulty, answer}
use Rattle.checker.specs.Checked.{answered, checked_of}
use Rattle.checker.proofs.Laws.Checked.{Accepted, accepted}
use Rattle.checker.specs.declared.Verdict.{Verdict}
use Rattle.checker.specs.declared.Verdict.TheVariants as checked
use Rattle.mark_spec.specs.declared.Marked.{Marked}
use Rattle.mark_spec.specs.declared.Marked.TheVariants.{Broken}
use Rattle.mark_spec.specs.Marked.{full_of, wide_of, our_width, by_width, graded, marked_of, mark_scratch_after, Marks}

-- ---- the mark by Check's verdict, as the code has it
unfoldable told : (least : ℕ) → Verdict → Marked
told l (checked.Kept m) = by_width l m.width m.rows
told l (checked.Broken b) = Broken b

told-answered : (l : ℕ) (a : Answer) → told l (answered a) ≡ graded l a
unfolding told answered graded
told-answered l (fine w h) = refl
told-answered l (faulty r a b) = refl

pub full_by : (l w h : ℕ) → w ≤ l → full_of w h ≡ by_width l w h
unfolding by_width
full_by l w h e = rw (le-leb w l e)

pub wide_by : (l w h : ℕ) → l < w → wide_of w l h ≡ by_width l w h
unfolding by_width
wide_by l w h e = rw (lt-leb w l e)

-- ---- a mark leaves the scratch as Layout does, a refusal as it was
by_width_clears : (l w h : ℕ) (s : List ℕ) → mark_scratch_after (Ok (by_width l w h)) s ≡ replicate scratch_size 0 ++ drop scratch_size s
unfolding by_width
by_width_clears l w h s = go (leb w l)
  where
    go : (b : Bool) → mark_scratch_after (Ok (cond b (full_of w h) (wide_of w l h))) s ≡ replicate scratch_size 0 ++ drop scratch_size s
    go true = unfold mark_scratch_after in refl
    go false = unfold mark_scratch_after in refl

pub graded_clears : (l : ℕ) (a : Answer) (s : List ℕ) → mark_scratch_after (Ok (graded l a)) s ≡ replicate scratch_size 0 ++ drop scratch_size s
unfolding graded mark_scratch_after
graded_clears l (fine w h) s = by_width_clears l (plus w) (plus h) s
graded_clears l (faulty r a b) s = refl

refused_keeps : (y : Result Marked Refusal) (e : Refusal) (s : List ℕ) → IsErrAnd y (λ d. d ≡ e) → s ≡ mark_scratch_after y s
unfolding mark_scratch_after
refused_keeps (Ok m) e s p = absurd p
refused_keeps (Err d) e s p = refl

-- ---- the call: question 1 of the scratch, whose refusal is r, then Check's answer
scratch-first : (b : Bool) (r : Refusal) → b ≡ true → or_else (asked 1 b 0) r ≡ r
unfolding asked
scratch-first b r e = rw e (none_first r)

pub unrefused : (t : Table) (ps : List ℤ) (al s : ℕ) → scratch_size ≤ s → refusal mark (mark_given t ps al s) ≡ refusal check (check_given t al ps)
unrefused t ps al s n = mark-refusal t ps al s ∙ scratch-first (leb scratch_size s) (refusal check (check_given t al ps)) (le-leb scratch_size s n)

module _ (t : Table) (ps : List ℤ) (al : ℕ) (s : List ℕ) where
  pub asks : (refusal mark (mark_given t ps al (length s))).number ≡ 0 → Accepted t al ps
  asks z =
      let y : (or_else (asked 1 (leb scratch_size (length s)) 0) (refusal check (check_given t al ps))).number ≡ 0 = ap (λ (x : Refusal). x.number) (sym (mark-refusal t ps al (length s))) ∙ z in
      accepted t al ps (both-none (asked 1 (leb scratch_size (length s)) 0) _ y).1

  -- the scratch is too short, or long enough
  pub short : (e : Refusal) (y : Result Marked Refusal) → Err e ≡ passed (asked 1 (leb scratch_size (length s)) 0) → IsErrAnd y (λ d. d ≡ e) → Marks t ps al s s y
  unfolding marked_of
  short e y h p =
      record {
        answers = err_stops _ _ _ _ h p _ ∙ ap (λ r. questions.answered r (graded (our_width t al) (answer t (placed ps) al))) (sym (mark-refusal t ps al (length s)));
        scratch = refused_keeps y e s p;
      }

  pub long : (u : ⊤) → Ok u ≡ passed (asked 1 (leb scratch_size (length s)) 0) → scratch_size ≤ length s
  long u h = leb→le scratch_size (length s) (asked_yes 0 _ 0 (passes _ u h))

  -- the table of a placement that Check judges
  pub judged_fit : (v : Verdict) → Ok v ≡ checked_of t ps al → Fit t
  unfolding checked_of
  judged_fit v e = (accepted t al ps (not_refused _ _ v e)).fit

  module _ (n : scratch_size ≤ length s) where
    same-answered : (v : Marked) → questions.answered (refusal mark (mark_given t ps al (length s))) v ≡ questions.answered (refusal check (check_given t al ps)) v
    same-answered v = ap (λ r. questions.answered r v) (unrefused t ps al (length s) n)

    marked-told : (v : Verdict) → Ok v ≡ checked_of t ps al → Ok (told (our_width t al) v) ≡ marked_of t ps al (refusal mark (mark_given t ps al (length s)))
    unfolding marked_of checked_of
    marked-told v e =
        let z = not_refused _ _ v e in
        let q : v ≡ answered (answer t (placed ps) al) = cc (e ∙ answered_none _ _ z) in
        ap (λ a. Ok (told (our_width t al) a)) q ∙ ap Ok (told-answered (our_width t al) (answer t (placed ps) al)) ∙ sym (same-answered _ ∙ answered_none _ _ z)

    pub kept : (m : Measures) → Ok (checked.Kept m) ≡ checked_of t ps al → (a : Marked) → a ≡ by_width (our_width t al) m.width m.rows → (s' : List ℕ) → s' ≡ replicate scratch_size 0
        → Marks t ps al s (s' ++ drop scratch_size s) (Ok a)
    unfolding told
    kept m e a q s' y = record { answers = ap Ok q ∙ marked-told (checked.Kept m) e; scratch = rw (q, y) (sym (by_width_clears (our_width t al) m.width m.rows s)) }

    pub broken : (b : Breach) → Ok (checked.Broken b) ≡ checked_of t ps al → (s' : List ℕ) → s' ≡ replicate scratch_size 0 → Marks t ps al s (s' ++ drop scratch_size s) (Ok (Broken b))
    unfolding told mark_scratch_after
    broken b e s' y = record { answers = marked-told (checked.Broken b) e; scratch = rw y refl }

    pub refused : (e : Refusal) (y : Result Marked Refusal) → Err e ≡ checked_of t ps al → IsErrAnd y (λ d. d ≡ e) → Marks t ps al s s y
    unfolding marked_of checked_of
    refused e y h p =
        let f = refused_by _ _ e h in
        record {
          answers = answers_err _ _ _ _ (ap Err f.0 ∙ sym (answered_some _ _ f.1)) p ∙ sym (same-answered _);
          scratch = refused_keeps y e s p;
        }
