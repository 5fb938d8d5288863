-- The transcript as the code writes it, line by line. Nothing that a reader must believe stands here. Assumes nothing.
use Rattle.std.specs.Prelude.{◌≡◌, refl, List, [], ◌∷◌, ◌++◌, ℕ, ◌+◌, ◌≤◌, ◌<◌, leb, length, get_or, take, drop, Result, Ok, Err}
use Rattle.std.proofs.Math.Path.{sym, ap}
use Rattle.std.proofs.Common.{◌∙◌, append-nil, append_assoc, add-one, arith, leb→le, length-append, take-suc, get_or-take}
use Rattle.std.proofs.Math.Decide.{ℕ_discrete}
use Rattle.std.proofs.Math.Seq.{take-append_seam}
use borrow.Author.Tests.{eq-eqb, ne_eqb}
use Rattle.plan.specs.Limits.{most_cells, most_steps, most_answers}
use Rattle.plan.proofs.Laws.Lists.{at_get_or}
use Rattle.plan.specs.Plan.{Table}
use Rattle.plan.specs.Fit.{Fit}
use Rattle.plan.proofs.Laws.Tables.{length-is}
use Rattle.plan.specs.Questions.{refusal, drill, drill_given, asked, or_else}
use Rattle.plan.proofs.Laws.Questions.{both-none, asked_yes}
use Rattle.plan.specs.Steps.{counted_refusal}
use Rattle.plan.proofs.Laws.Calls.{drill-refusal}
use Rattle.plan.specs.declared.Refusal.{Refusal}
use Rattle.plan.proofs.Laws.Answered.{answered_none, answered_some, refused_by}
use Rattle.planfile_spec.specs.Read.{Reading, plan_of, answer_of}
use Rattle.planfile_spec.specs.Reading.{reading_of}
use Rattle.listing.specs.Printed.{Bytes, refused_line, step_line, end_line}
use Rattle.listing.specs.Line.{line_of, text}
use Rattle.listing.specs.Put.{Put}
use Rattle.listing.proofs.Laws.Put.{then, put-none}
use Rattle.listing.specs.declared.Line.{Line}
use Rattle.printing.specs.Printing.{label_bytes, read_table, Taken}
use Rattle.listing.proofs.Laws.Line.{line-text}
use Rattle.moves.specs.Drill.{Outcome, finished, spent, wrong, full, drill_of}
use Rattle.moves.proofs.Laws.Beyond.{used_few, records_few}
use Rattle.moves.proofs.Laws.Steps.{steps_are}
use Rattle.following.specs.Drilled.{told_as, drill_told, list_after, Drills}
use Rattle.following.proofs.Laws.Drilled.{asks}
use Rattle.following.specs.declared.Drilled.{Drilled}
use Rattle.following.specs.declared.Drilled.TheVariants.{Finished, Spent, Wrong, Full}
use Rattle.transcript.specs.Transcript.{finished_word, spent_word, wrong_word, full_word, steps_text, told_lines, transcript_of, records_in, used_in, Recorded, Tellable}

-- ---- the lines of steps
steps-append : (f : Bytes) (xs ys : List ℕ) → steps_text f (xs ++ ys) ≡ steps_text f xs ++ steps_text f ys
unfolding steps_text
steps-append f [] ys = refl
steps-append f (x ∷ xs) ys = ap (λ (l : Bytes). step_line x (label_bytes f x) ++ l) (steps-append f xs ys) ∙ sym (append_assoc (step_line x (label_bytes f x)) (steps_text f xs) (steps_text f ys))

steps-one : (f : Bytes) (c : ℕ) → steps_text f (c ∷ []) ≡ step_line c (label_bytes f c)
unfolding steps_text
steps-one f c = append-nil (step_line c (label_bytes f c))

steps-more : (f : Bytes) (xs : List ℕ) (i : ℕ) → i < length xs → steps_text f (take (i + 1) xs) ≡ steps_text f (take i xs) ++ step_line (get_or xs i 0) (label_bytes f (get_or xs i 0))
steps-more f xs i h = rw (add-one, take-suc xs i 0 h) (steps-append f (take i xs) (get_or xs i 0 ∷ []) ∙ ap (λ (l : Bytes). steps_text f (take i xs) ++ l) (steps-one f (get_or xs i 0)))

pub put-no-steps : (f : Bytes) (xs a : List ℕ) → Put a 0 (steps_text f (take 0 xs)) a 0
unfolding steps_text
put-no-steps f xs a = put-none a 0

pub put_step : (f : Bytes) (xs : List ℕ) (i c : ℕ) {a b d : List ℕ} {j k : ℕ} (l : Line) → i < length xs → c ≡ get_or xs i 0 → Put a 0 (steps_text f (take i xs)) b j → l ≡ line_of (step_line c (label_bytes f c)) → l.length ≤ 52
    → Put b j (text l) d k → (k ≤ j + 52) × Put a 0 (steps_text f (take (i + 1) xs)) d k
unfolding line_of
put_step f xs i c l g q u e h v =
    let t : text l ≡ step_line c (label_bytes f c) = rw e (line-text (step_line c (label_bytes f c))) in
    let w : l.length ≡ length (step_line c (label_bytes f c)) = rw e in
    let v' = rw t at v in
    (omega (arith, v'.place), rw (steps-more f xs i g, ← q) (then u v'))

pub steps-done : (f : Bytes) (xs : List ℕ) {a b : List ℕ} {k i n : ℕ} → Put a 0 (steps_text f (take i xs)) b k → i ≤ n → n ≤ i → Put a 0 (steps_text f (take n xs)) b k
steps-done f xs {i = i} {n = n} u g h = let e : i ≡ n = omega arith in rw e at u

-- a line after a text, and a line alone
pub put_last : (t : List ℕ) {s a b d : List ℕ} {j k : ℕ} (l : Line) → Put a 0 s b j → l ≡ line_of t → Put b j (text l) d k → Put a 0 (s ++ t) d k
put_last t l u e v = let q : text l ≡ t = rw e (line-text t) in then u (rw q at v)

pub put_alone : (t : List ℕ) {a d : List ℕ} {k : ℕ} (l : Line) → l ≡ line_of t → Put a 0 (text l) d k → Put a 0 t d k
put_alone t l e v = let q : text l ≡ t = rw e (line-text t) in rw q at v

-- ---- the answers, case by case
module _ {r : Result Drilled Refusal} {u n : ℕ} where
  pub in_finished : r ≡ Ok (Finished u n) → (records_in r ≡ n) × (used_in r ≡ u)
  unfolding records_in used_in
  in_finished e = (rw e, rw e)

  pub in_spent : r ≡ Ok (Spent u n) → (records_in r ≡ n) × (used_in r ≡ u)
  unfolding records_in used_in
  in_spent e = (rw e, rw e)

  pub in_wrong : r ≡ Ok (Wrong u n) → (records_in r ≡ n) × (used_in r ≡ u)
  unfolding records_in used_in
  in_wrong e = (rw e, rw e)

  pub in_full : r ≡ Ok (Full u n) → (records_in r ≡ n) × (used_in r ≡ u)
  unfolding records_in used_in
  in_full e = (rw e, rw e)

pub tell_needs : (p : Reading) (xs : List ℕ) {r : Result Drilled Refusal} {u n : ℕ} → Tellable p xs r → (records_in r ≡ n) × (used_in r ≡ u) → Recorded p n xs × (u ≤ most_answers)
tell_needs p xs {u = u} {n = n} h e = let x = rw e.0 at h.recorded in let y = rw e.1 at h.few in (x, y)

-- the lines of an answer, from those of its case
module _ (f xs : List ℕ) {r : Result Drilled Refusal} {a b : List ℕ} {k m u n : ℕ} where
  pub tell_finished : r ≡ Ok (Finished u n) → Put a 0 (steps_text f (take n xs) ++ end_line finished_word u n) b k × (k ≤ m) → Put a 0 (told_lines f (take (records_in r) xs) r) b k × (k ≤ m)
  unfolding told_lines records_in
  tell_finished e h = rw e h

  pub tell_spent : r ≡ Ok (Spent u n) → Put a 0 (steps_text f (take n xs) ++ end_line spent_word u n) b k × (k ≤ m) → Put a 0 (told_lines f (take (records_in r) xs) r) b k × (k ≤ m)
  unfolding told_lines records_in
  tell_spent e h = rw e h

  pub tell_wrong : r ≡ Ok (Wrong u n) → Put a 0 (steps_text f (take n xs) ++ end_line wrong_word u n) b k × (k ≤ m) → Put a 0 (told_lines f (take (records_in r) xs) r) b k × (k ≤ m)
  unfolding told_lines records_in
  tell_wrong e h = rw e h

  pub tell_full : r ≡ Ok (Full u n) → Put a 0 (steps_text f (take n xs) ++ end_line full_word u n) b k × (k ≤ m) → Put a 0 (told_lines f (take (records_in r) xs) r) b k × (k ≤ m)
  unfolding told_lines records_in
  tell_full e h = rw e h

pub tell_refused : (f xs : List ℕ) {r : Result Drilled Refusal} {e : Refusal} {a b : List ℕ} {k m : ℕ} → r ≡ Err e → Put a 0 (refused_line e.number e.cell) b k × (k ≤ m) → Put a 0 (told_lines f (take (records_in r) xs) r) b k × (k ≤ m)
unfolding told_lines
tell_refused f xs e h = rw e h

-- an answer by what is in it
pub within : {r : Result Drilled Refusal} {x a : Drilled} → r ≡ Ok x → x ≡ a → r ≡ Ok a
within e q = e ∙ ap Ok q

-- ---- the drill's answer
told-records : (o : Outcome) (u n : ℕ) → (records_in (Ok (told_as o u n)) ≡ n) × (used_in (Ok (told_as o u n)) ≡ u)
unfolding records_in used_in
told-records finished u n = (refl, refl)
told-records spent u n = (refl, refl)
told-records wrong u n = (refl, refl)
told-records full u n = (refl, refl)

-- what the lines need, and that they are the transcript
pub record Answered (p : Reading) (f bs xs : List ℕ) (r : Result Drilled Refusal) : Type 0 where
  pub tellable : Tellable p xs r
  pub is : told_lines f (take (records_in r) xs) r ≡ transcript_of f bs

module _ (p : Reading) (f bs xs xs' : List ℕ) (r : Result Drilled Refusal) (h : Taken p f) (size : length xs ≡ most_steps) (g : Drills (read_table p) bs xs xs' r) where
  abbrev t : Table
  t = read_table p

  abbrev why : Refusal
  why = refusal drill (drill_given t (length bs) (length xs))

  taken-text : transcript_of f bs ≡ told_lines f (drill_of t bs).steps r
  unfolding transcript_of
  taken-text =
      let e = h.is in
      let z = eq-eqb p.refusal.number 0 h.passes in
      rw (← e, z, ← size) (ap (told_lines f (drill_of t bs).steps) (sym g.answer))

  module _ (z : why.number ≡ 0) where
    fit : Fit t
    fit = (asks t bs xs z).0

    few_answers : length bs ≤ most_answers
    few_answers =
        let y : (or_else (asked 1 (leb most_steps (length xs)) 0) (or_else (counted_refusal t) (asked 21 (leb (length bs) most_answers) 0))).number ≡ 0 = ap (λ (x : Refusal). x.number) (sym (drill-refusal t (length bs) (length xs))) ∙ z in
        let (one, rest) = both-none (asked 1 (leb most_steps (length xs)) 0) _ y in
        leb→le (length bs) most_answers (asked_yes 20 _ 0 (both-none (counted_refusal t) _ rest).1)

    is-told : r ≡ Ok (drill_told (drill_of t bs))
    is-told = g.answer ∙ answered_none why _ z

    is-list : xs' ≡ (drill_of t bs).steps ++ drop (length (drill_of t bs).steps) xs
    unfolding list_after
    is-list = g.list ∙ rw (eq-eqb why.number 0 z)

    is-records : (records_in r ≡ length (drill_of t bs).steps) × (used_in r ≡ (drill_of t bs).used)
    unfolding drill_told
    is-records =
        let k = told-records (drill_of t bs).outcome (drill_of t bs).used (length (drill_of t bs).steps) in
        (ap records_in is-told ∙ k.0, ap used_in is-told ∙ k.1)

    first_are : take (records_in r) xs' ≡ (drill_of t bs).steps
    first_are = rw (is-records.0, is-list) (take-append_seam (drill_of t bs).steps _)

    cells_are : (i : ℕ) → i < records_in r → get_or xs' i 0 < p.columns.count
    cells_are i l =
        let e : get_or xs' i 0 ≡ get_or (drill_of t bs).steps i 0 = sym (get_or-take (records_in r) xs' i 0 l) ∙ ap (λ (x : List ℕ). get_or x i 0) first_are in
        let a = at_get_or (drill_of t bs).steps i 0 (omega (arith, is-records.0)) in
        omega (arith, e, (steps_are t bs fit i (get_or (drill_of t bs).steps i 0) a).0, length-is p.columns)

    answered-told : Answered p f bs xs' r
    answered-told =
        record {
          tellable = record {
            recorded = record {
              few = omega (arith, is-records.0, records_few t bs fit);
              long = omega (arith, is-records.0, ap length is-list, length-append (drill_of t bs).steps (drop (length (drill_of t bs).steps) xs));
              cells = cells_are;
            };
            few = omega (arith, is-records.1, used_few t bs fit, few_answers);
          };
          is = ap (λ (x : List ℕ). told_lines f x r) first_are ∙ sym taken-text;
        }

  refused-lines : (ss ys : List ℕ) → r ≡ Err why → told_lines f ss r ≡ told_lines f ys r
  unfolding told_lines
  refused-lines ss ys e = rw e

  refused_none : r ≡ Err why → (records_in r ≡ 0) × (used_in r ≡ 0)
  unfolding records_in used_in
  refused_none e = (rw e, rw e)

  answered-refused : ¬ (why.number ≡ 0) → Answered p f bs xs' r
  answered-refused z =
      let e : r ≡ Err why = g.answer ∙ answered_some why _ z in
      let k = refused_none e in
      record {
        tellable = record { recorded = record { few = omega (arith, k.0); long = omega (arith, k.0); cells = λ i l. absurd (omega (arith, k.0)) }; few = omega (arith, k.1) };
        is = refused-lines (take (records_in r) xs') (drill_of t bs).steps e ∙ sym taken-text;
      }

  pub answered : Answered p f bs xs' r
  answered = elim (ℕ_discrete why.number 0) [ yes z ↦ answered-told z | no z ↦ answered-refused z ]

-- of a file that Read refuses
unread : (f bs : List ℕ) (e : Refusal) → e ≡ (reading_of f most_cells).refusal → ¬ ((reading_of f most_cells).refusal.number ≡ 0) → refused_line e.number e.cell ≡ transcript_of f bs
unfolding transcript_of
unread f bs e q z = rw (q, ne_eqb (reading_of f most_cells).refusal.number 0 z)

pub unread-done : (f bs : List ℕ) (e : Refusal) → Err e ≡ answer_of (reading_of f most_cells) → {a b : List ℕ} {k m : ℕ} → Put a 0 (refused_line e.number e.cell) b k × (k ≤ m) → Put a 0 (transcript_of f bs) b k × (k ≤ m)
unread-done f bs e h v =
    let g = refused_by (reading_of f most_cells).refusal (plan_of (reading_of f most_cells)) e h in
    rw (← unread f bs e g.0 g.1) v

pub answered-done : (p : Reading) (f bs xs : List ℕ) (r : Result Drilled Refusal) → Answered p f bs xs r → {a b : List ℕ} {k m : ℕ} → Put a 0 (told_lines f (take (records_in r) xs) r) b k × (k ≤ m) → Put a 0 (transcript_of f bs) b k × (k ≤ m)
answered-done p f bs xs r h v = rw h.is at v
