-- The loop begins with nothing read, and ends with nothing left. Assumes nothing.
use Rattle.std.specs.Prelude.{◌≡◌, refl, List, [], ℕ, ◌+◌, ◌≤◌, length, take, drop, Ok, Err}
use Rattle.std.proofs.Common.{sym, ap, ◌∙◌, append-nil, arith}
use Rattle.std.proofs.lemmas.List.{length-replicate}
use Rattle.plan.specs.Limits.{most_cells}
use Rattle.plan.specs.Lists.{from}
use Rattle.records.specs.Apart.{records_in}
use Rattle.content.specs.Clean.{labels, entries}
use Rattle.outline_spec.specs.Understood.{items, cells, lines}
use Rattle.outline_spec.specs.declared.Fault.{Fault}
use Rattle.compose.specs.Prefixed.{prefixed}
use Rattle.compose.specs.Meaning.{count, items_in, so_far, cells_in}
use Rattle.compose.specs.State.{start_at, rest_of, rest_in, Well, Tight, Turned, Reads}
use Rattle.compose.proofs.Laws.Loop.{prefixed-all, lines_none}
use Rattle.compose.specs.declared.State.{State}

start-rest : (text letters : List ℕ) (i : ℕ) → rest_of text letters (start_at i) ≡ cells 0 [] (lines (drop i text))
unfolding rest_of start_at items_in records_in from prefixed
start-rest text letters i = refl

start_well : (i : ℕ) → Well (start_at i)
unfolding start_at
start_well i =
    record {
      few = omega arith;
      brief = omega arith;
      within = λ j h. absurd (omega arith);
      long = record {
        parents = length-replicate {A = ℕ} most_cells 0;
        kinds = length-replicate {A = ℕ} most_cells 0;
        widths = length-replicate {A = ℕ} most_cells 0;
        depths = length-replicate {A = ℕ} most_cells 0;
        ranks = length-replicate {A = ℕ} most_cells 0;
        lengths = length-replicate {A = ℕ} most_cells 0;
        starts = length-replicate {A = ℕ} most_cells 0;
      };
      seen = length-replicate {A = ℕ} most_cells 0;
    }

pub start-tight : (letters : List ℕ) (i : ℕ) → Tight letters 0 (start_at i).table
unfolding start_at items_in records_in from entries labels
start-tight letters i = record { rows = refl; bytes = refl }

start_used : (i : ℕ) → (start_at i).used ≡ 0
unfolding start_at
start_used i = refl

tight-start : (letters : List ℕ) (i : ℕ) → Tight letters (start_at i).used (start_at i).table
tight-start letters i = rw (start_used i) (start-tight letters i)

pub starts_well : (text letters : List ℕ) (i : ℕ) (s : State) → s ≡ start_at i → Well s × (rest_of text letters s ≡ cells 0 [] (lines (drop i text))) × Tight letters s.used s.table
starts_well text letters i s e = rw e (start_well i, start-rest text letters i, tight-start letters i)

rest_end : (text letters : List ℕ) (s : State) → length text ≤ s.at → rest_of text letters s ≡ items (so_far letters s)
unfolding rest_of cells
rest_end text letters s h =
    ap (λ x. prefixed (so_far letters s) (cells (count s) (take (count s) s.levels) x)) (lines_none text s.at h)
    ∙ prefixed-all (so_far letters s) [] ∙ ap items (append-nil (so_far letters s))

pub reads_all : (text letters : List ℕ) (i : ℕ) (s : State) → length text ≤ s.at → rest_of text letters s ≡ cells 0 [] (lines (drop i text)) → Well s → Tight letters s.used s.table → Reads text i letters (Ok s)
unfolding cells_in
reads_all text letters i s h e w x = record { answers = sym (rest_end text letters s h) ∙ e; room = omega (arith, w.brief, w.few); tight = x }

-- a line that is not understood
pub reads_wrong : (text letters letters' : List ℕ) (i : ℕ) (s : State) (f : Fault) → rest_of text letters s ≡ cells 0 [] (lines (drop i text)) → Turned text letters s letters' (Err f)
    → Reads text i letters' (Err (record { line = count s + 2; fault = f }))
unfolding cells_in rest_in
reads_wrong text letters letters' i s f e t = record { answers = t.same ∙ e; room = tt; tight = tt }

-- and one that is
pub reads_on : (text letters letters' : List ℕ) (i : ℕ) (s t : State) → rest_of text letters s ≡ cells 0 [] (lines (drop i text)) → Turned text letters s letters' (Ok t) → rest_of text letters' t ≡ cells 0 [] (lines (drop i text))
unfolding rest_in
reads_on text letters letters' i s t e h = h.same ∙ e
