-- What the clean copy's call answers, and Read and Copy one after the other. Nothing that a reader must believe stands here. Assumes nothing.
use Rattle.std.specs.Prelude.{◌≡◌, refl, List, ◌++◌, ℕ, ◌≤◌, length, take, drop, Result, Ok, Err}
use Rattle.std.proofs.Common.{sym, ap, ◌∙◌}
use Rattle.std.proofs.Math.Seq.{take-append_seam}
use Rattle.plan.specs.Limits.{most_cells, most_file}
use Rattle.plan.specs.Questions.{none}
use Rattle.plan.proofs.Laws.Answered.{not_refused, answered_none, answered_some}
use Rattle.plan.specs.declared.Record.{Record}
use Rattle.plan.specs.declared.Refusal.{Refusal}
use Rattle.planfile_spec.specs.Format.{trailer_of, records_of}
use Rattle.content.specs.Content.{content, letters_of, file_content}
use Rattle.content.specs.Clean.{clean, copy, copy_refusal}
use Rattle.content.proofs.Promised.{read_copied, copy_read}
use Rattle.content.proofs.Laws.Clean.{clean-content}
use Rattle.copying.specs.Copied.{copied_of, output_after, Copies}
use Rattle.read_entry.specs.Read.{read_refusal, Reads}
use Rattle.demands.specs.Outcomes.{plan_of}
use Rattle.demands.proofs.Laws.ReadThen.{told, first-records}

module _ (rs : List Record) (letters : List ℕ) (al : ℕ) (out out' : List ℕ) (r : Result ℕ Refusal) (l : Copies rs letters al out out' r) where
  abbrev why : Refusal
  why = copy_refusal rs letters al (length out)

  pub unchanged : ¬ (why.number ≡ 0) → (r ≡ Err why) × (out' ≡ out)
  unfolding copied_of output_after
  unchanged z = let e : r ≡ Err why = l.answers ∙ answered_some why _ z in (e, l.output ∙ rw e)

  pub written : why ≡ none → (r ≡ Ok (length (copy rs letters al))) × (out' ≡ copy rs letters al ++ drop (length (copy rs letters al)) out)
  unfolding copied_of output_after
  written z = let e : r ≡ Ok (length (copy rs letters al)) = l.answers ∙ answered_none why _ (ap (λ (x : Refusal). x.number) z) in (e, l.output ∙ rw e)

file-whole : (f : List ℕ) → content (records_of f) (letters_of f) (trailer_of f).allowance ≡ file_content f
unfolding file_content
file-whole f = refl

-- ---- what an answer with a length says
accepted : (rs : List Record) (letters : List ℕ) (al k : ℕ) (r : Refusal) → Ok k ≡ copied_of rs letters al r → (r.number ≡ 0) × (k ≡ length (copy rs letters al))
unfolding copied_of
accepted rs letters al k r e = let z = not_refused r _ k e in (z, same _ (e ∙ answered_none r _ z))
  where
    same : (m : ℕ) → ◌≡◌ {A = Result ℕ Refusal} (Ok k) (Ok m) → k ≡ m
    same m q = cc

module _ (rs : List Record) (letters : List ℕ) (al : ℕ) (out out' : List ℕ) (k : ℕ) (l : Copies rs letters al out out' (Ok k)) where
  passes : ((copy_refusal rs letters al (length out)).number ≡ 0) × (k ≡ length (copy rs letters al))
  passes = accepted rs letters al k (copy_refusal rs letters al (length out)) l.answers

  -- the file that was written: the first k bytes
  pub file-written : take k out' ≡ copy rs letters al
  unfolding output_after
  file-written = rw (l.output, passes.1) (take-append_seam (copy rs letters al) _)

  pub then-accepted : (room : ℕ) → most_cells ≤ room → read_refusal (take k out') room ≡ none
  then-accepted room h = rw file-written (copy_read rs letters al (length out) room passes.0 h).0

  pub then-content : (t t' : List Record) (n al' : ℕ) → Reads (take k out') t t' (plan_of n al') → content (take n t') (letters_of (take k out')) al' ≡ content rs letters al
  then-content t t' n al' g =
      let e : content (take n t') (letters_of (take k out')) al' ≡ content (records_of (take k out')) (letters_of (take k out')) (trailer_of (take k out')).allowance = rw (first-records (take k out') t t' n al' g, (told (take k out') t t' n al' g).2) refl in
      e ∙ file-whole (take k out') ∙ ap file_content file-written ∙ clean-content (content rs letters al)

-- two copies of one content
pub same_copies : (rs rs' : List Record) (letters letters' : List ℕ) (al al' : ℕ) (out out' o o' : List ℕ) (k m : ℕ) → Copies rs letters al out out' (Ok k) → Copies rs' letters' al' o o' (Ok m)
    → content rs letters al ≡ content rs' letters' al' → (k ≡ m) × (take k out' ≡ take m o')
same_copies rs rs' letters letters' al al' out out' o o' k m g h e =
    let c : copy rs letters al ≡ copy rs' letters' al' = ap clean e in
    ((passes rs letters al out out' k g).1 ∙ ap length c ∙ sym (passes rs' letters' al' o o' m h).1, file-written rs letters al out out' k g ∙ c ∙ sym (file-written rs' letters' al' o o' m h))

-- a copy, read and copied again
pub again : (rs : List Record) (letters : List ℕ) (al : ℕ) (out out' : List ℕ) (k : ℕ) → Copies rs letters al out out' (Ok k) → (t t' : List Record) (n al' : ℕ) → Reads (take k out') t t' (plan_of n al')
    → (o o' : List ℕ) (m : ℕ) → Copies (take n t') (letters_of (take k out')) al' o o' (Ok m) → take m o' ≡ take k out'
again rs letters al out out' k g t t' n al' r o o' m h =
    file-written (take n t') (letters_of (take k out')) al' o o' m h ∙ ap clean (then-content rs letters al out out' k g t t' n al' r) ∙ sym (file-written rs letters al out out' k g)

-- what Read gave
pub then-copy : (f : List ℕ) (t t' : List Record) (n al : ℕ) → Reads f t t' (plan_of n al) → (room : ℕ) → most_file ≤ room → (copy_refusal (take n t') (letters_of f) al room).number ≡ 0
then-copy f t t' n al g room h = rw (first-records f t t' n al g, (told f t t' n al g).2) (read_copied f (length t) room (told f t t' n al g).0 h)
