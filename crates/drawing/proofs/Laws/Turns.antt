-- Line after line. Assumes nothing.
use Rattle.std.specs.Prelude.{◌≡◌, refl, List, [], ◌∷◌, ℕ, suc, ◌+◌, ◌-◌, ◌≤◌, ◌<◌, ℤ, length, take, drop, Result, Ok, Err, IsErrAnd, ⊤}
use Rattle.std.proofs.Common.{sym, ap, ◌∙◌, arith}
use Rattle.listing.specs.Printed.{Bytes}
use Rattle.drawing_spec.specs.Words.{lines}
use Rattle.drawing_spec.specs.declared.Fault.{Fault}
use Rattle.drawing_spec.specs.Said.{Said, wrong, Sketch, goes, stops, line_said, step, complete, said_lines}
use Rattle.drawing.specs.Steps.{until, feed, Held, sketch, Turned, read_said, Reads}
use Rattle.drawing.proofs.Laws.Spans.{lines_from, lines_none}
use Rattle.drawing.proofs.Laws.Lines.{stepped_ok, stepped-err, that_fault}

module _ (n k : ℕ) (s : Sketch) (l : Bytes) (ls : List Bytes) where
  pub said_goes : (s' : Sketch) → step n k s (line_said k l) ≡ goes s' → said_lines n k s (l ∷ ls) ≡ said_lines n (suc k) s' ls
  unfolding said_lines
  said_goes s' e = rw (e, said_lines)

  pub said-stops : (r : Said) → step n k s (line_said k l) ≡ stops r → said_lines n k s (l ∷ ls) ≡ r
  unfolding said_lines
  said-stops r e = rw (e, said_lines)

pub said-end : (n k : ℕ) (s : Sketch) → said_lines n k s [] ≡ complete n s
unfolding said_lines
said-end n k s = refl

-- ---- one line more, number k, from a place on
module _ (n : ℕ) (text : Bytes) (k at end : ℕ) (g : List ℕ) (ps : List ℤ) (here : at < length text) (ends : end ≡ at + until feed (drop at text)) where
  abbrev line : Bytes
  line = take (end - at) (drop at text)

  pieces : lines (drop at text) ≡ line ∷ lines (drop (end + 1) text)
  pieces =
      let m : end - at ≡ until feed (drop at text) = omega arith in
      let q : line ≡ take (until feed (drop at text)) (drop at text) = ap (λ i. take i (drop at text)) m in
      lines_from text at here ∙ rw (← q, ← ends)

  pub turned_goes : (g' : List ℕ) (ps' : List ℤ) (u : ⊤) → Turned n k line g ps g' ps' (Ok u) → said_lines n k (sketch g ps) (lines (drop at text)) ≡ said_lines n (k + 1) (sketch g' ps') (lines (drop (end + 1) text))
  turned_goes g' ps' u t =
      ap (said_lines n k (sketch g ps)) pieces ∙ said_goes n k (sketch g ps) line _ (sketch g' ps') (t.is ∙ stepped_ok (sketch g' ps') u)
      ∙ (let q : suc k ≡ k + 1 = omega arith in ap (λ m. said_lines n m (sketch g' ps') (lines (drop (end + 1) text))) q)

  pub turned_stops : (g' : List ℕ) (ps' : List ℤ) (f : Fault) → Turned n k line g ps g' ps' (Err f) → said_lines n k (sketch g ps) (lines (drop at text)) ≡ wrong f
  turned_stops g' ps' f t = ap (said_lines n k (sketch g ps)) pieces ∙ said-stops n k (sketch g ps) line _ (wrong f) (t.is ∙ stepped-err (sketch g' ps') f)

-- ---- the loop
read-fault : (n : ℕ) (g : List ℕ) (ps : List ℤ) (f : Fault) → read_said n g ps (Err f) ≡ wrong f
unfolding read_said
read-fault n g ps f = refl

read_all : (n : ℕ) (g : List ℕ) (ps : List ℤ) (u : ⊤) → read_said n g ps (Ok u) ≡ complete n (sketch g ps)
unfolding read_said
read_all n g ps u = refl

module _ (n : ℕ) (text : Bytes) (g₀ : List ℕ) (ps₀ : List ℤ) (k at : ℕ) (g : List ℕ) (ps : List ℤ) (same : said_lines n k (sketch g ps) (lines (drop at text)) ≡ said_lines n 1 (sketch g₀ ps₀) (lines text)) where
  pub reads-stops : (f : Fault) → said_lines n k (sketch g ps) (lines (drop at text)) ≡ wrong f → (g' : List ℕ) (ps' : List ℤ) → Held ps' → (y : Result ⊤ Fault) → IsErrAnd y (λ d. d ≡ f)
      → Reads n text g₀ ps₀ g' ps' y
  reads-stops f e g' ps' h y p = record { is = ap (read_said n g' ps') (that_fault y f p) ∙ read-fault n g' ps' f ∙ sym e ∙ same; held = h }

  pub reads_all : length text ≤ at → Held ps → (u : ⊤) → Reads n text g₀ ps₀ g ps (Ok u)
  reads_all l h u = record { is = read_all n g ps u ∙ sym (said-end n k (sketch g ps)) ∙ ap (said_lines n k (sketch g ps)) (sym (lines_none text at l)) ∙ same; held = h }
