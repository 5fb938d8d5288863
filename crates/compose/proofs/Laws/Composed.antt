-- The plan file of an outline, as the code comes to it. Assumes nothing.
use Rattle.std.specs.Prelude.{◌≡◌, Bool, ℕ, ◌≤◌, ◌<◌, eqb, length, take, Result, Ok, Err, IsErrAnd}
use Rattle.std.proofs.Math.Path.{refl, sym, ap}
use Rattle.std.proofs.Common.{◌∙◌, arith, le-leb}
use mathlib.Core.List.{List, ◌++◌}
use Rattle.std.proofs.Math.Bool.{true, false, cond}
use Rattle.std.proofs.Math.ListN.{drop}
use Rattle.std.proofs.lemmas.Bool.{lt-leb}
use Rattle.plan.specs.Limits.{most_file}
use Rattle.plan.specs.Questions.{answered}
use Rattle.plan.specs.declared.Record.{Record}
use Rattle.plan.specs.declared.Refusal.{Refusal}
use Rattle.plan.proofs.Laws.Answered.{answered_none, not_refused}
use Rattle.records.specs.Apart.{records_in}
use Rattle.content.specs.Content.{content}
use Rattle.content.specs.Clean.{labels, clean, copy, copy_refusal}
use Rattle.content.proofs.Laws.Promised.{copy_passed, copy_small}
use Rattle.copying.specs.Copied.{copied_of, output_after, Copies}
use Rattle.outline_spec.specs.Faults.{fault_number}
use Rattle.outline_spec.specs.Refused.{content_refusal}
use Rattle.outline_spec.specs.Understood.{Understood, plan, understood}
use Rattle.compose.specs.Meaning.{items_in, meaning}
use Rattle.compose.specs.State.{Understands}
use Rattle.compose.specs.Composed.{Composed, composed_by, composed_of, file_by, composed_after, size, Composes}
use Rattle.compose.specs.declared.Misread.{Misread}
use Rattle.compose.specs.declared.Understanding.{Understanding}
use Rattle.compose.specs.declared.ComposeError.{ComposeError}
use Rattle.compose.specs.declared.ComposeError.TheVariants.{Refused, Wrong}

-- Copy's answer
as_composed : Result ℕ Refusal → Composed
as_composed (Ok n) = Ok n
as_composed (Err r) = Err (Refused r)

that_error : {A : Type 0} (y : Result A ComposeError) (e : ComposeError) → IsErrAnd y (λ d. d ≡ e) → y ≡ Err e
that_error (Ok v) e p = absurd p
that_error (Err d) e p = ap Err p

-- an output that is too short
pub compose_short : (text out : List ℕ) → length out < most_file → Composes text out out (Err (Refused (record { number = 1; cell = 0 })))
unfolding composed_of composed_after size
compose_short text out h = record { answers = rw (lt-leb most_file (length out) h) refl; output = refl; suffices = omega arith }

module _ (text letters : List ℕ) (out : List ℕ) (room : most_file ≤ length out) where
  composed_is : composed_of text (length out) ≡ composed_by (understood text) (length out)
  unfolding composed_of
  composed_is = rw (le-leb most_file (length out) room) refl

  -- a fault
  wrong-is : (m : Misread) → Understands text letters (Err m) → Composes text out out (Err (Wrong m.line (fault_number m.fault)))
  unfolding meaning composed_by composed_after size
  wrong-is m h = record { answers = sym (composed_is ∙ ap (λ (x : Understood). composed_by x (length out)) (sym h.answers)); output = refl; suffices = omega arith }

  pub compose_wrong : (m : Misread) → Understands text letters (Err m) → (r : Composed) → IsErrAnd r (λ d. d ≡ Wrong m.line (fault_number m.fault)) → Composes text out out r
  compose_wrong m h r p = rw (that_error r (Wrong m.line (fault_number m.fault)) p) (wrong-is m h)

  -- a content
  module _ (u : Understanding) (h : Understands text letters (Ok u)) where
    abbrev rs : List Record
    rs = records_in u.table

    abbrev L : List ℕ
    L = take u.used letters

    abbrev al : ℕ
    al = u.allowance

    says : understood text ≡ plan (content rs L al)
    unfolding meaning content items_in
    says = sym h.answers

    refusal_is : content_refusal (content rs L al) (length out) ≡ copy_refusal rs L al (length out)
    unfolding content_refusal content items_in
    refusal_is =
        ap (λ (x : List Record). copy_refusal x (labels (items_in letters u.used u.table)) al (length out)) (sym h.tight.rows)
        ∙ ap (λ (x : List ℕ). copy_refusal rs x al (length out)) (sym h.tight.bytes)

    as_written : as_composed (copied_of rs L al (copy_refusal rs L al (length out))) ≡ composed_by (plan (content rs L al)) (length out)
    unfolding as_composed copied_of answered composed_by
    as_written = rw refusal_is (go (eqb (copy_refusal rs L al (length out)).number 0))
      where
        go : (y : Bool) → as_composed (cond y (Ok (length (copy rs L al))) (Err (copy_refusal rs L al (length out)))) ≡ cond y (Ok (length (clean (content rs L al)))) (Err (Refused (copy_refusal rs L al (length out))))
        go true = refl
        go false = refl

    module _ (out' : List ℕ) (d : Result ℕ Refusal) (g : Copies rs L al out out' d) where
      answer-is : as_composed d ≡ composed_of text (length out)
      answer-is = ap as_composed g.answers ∙ as_written ∙ sym (composed_is ∙ ap (λ (x : Understood). composed_by x (length out)) says)

    -- the longest copy fits a file
    small : (out' : List ℕ) (k : ℕ) → Copies rs L al out out' (Ok k) → k ≤ most_file
    unfolding copied_of
    small out' k g =
        let z : (copy_refusal rs L al (length out)).number ≡ 0 = not_refused (copy_refusal rs L al (length out)) (length (copy rs L al)) k g.answers in
        let e : Ok k ≡ answered (copy_refusal rs L al (length out)) (length (copy rs L al)) = g.answers in
        let q : k ≡ length (copy rs L al) = cc (e ∙ answered_none (copy_refusal rs L al (length out)) (length (copy rs L al)) z) in
        rw q (copy_small rs L al (copy_passed rs L al (length out) z).1)

    pub compose_written : (out' : List ℕ) (k : ℕ) → Copies rs L al out out' (Ok k) → Composes text out out' (Ok k)
    unfolding as_composed composed_after file_by output_after size
    compose_written out' k g = record { answers = answer-is out' (Ok k) g; output = g.output ∙ ap (λ (x : Understood). file_by x ++ drop k out) (sym says); suffices = small out' k g }

    refused-is : (out' : List ℕ) (r : Refusal) → Copies rs L al out out' (Err r) → Composes text out out' (Err (Refused r))
    unfolding as_composed composed_after output_after size
    refused-is out' r g = record { answers = answer-is out' (Err r) g; output = g.output; suffices = omega arith }

    pub compose_refused : (out' : List ℕ) (r : Refusal) → Copies rs L al out out' (Err r) → (y : Composed) → IsErrAnd y (λ d. d ≡ Refused r) → Composes text out out' y
    compose_refused out' r g y p = rw (that_error y (Refused r) p) (refused-is out' r g)
