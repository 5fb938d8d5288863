-- The state of the reader of lines, and what is still to be read in it. Nothing that a reader must believe stands here. Assumes nothing.
use Rattle.std.specs.Prelude.{◌≡◌, List, [], ℕ, ◌+◌, ◌*◌, ◌≤◌, ◌<◌, length, get_or, take, drop, replicate, Result, Ok, Err, IfOk}
use Rattle.plan.specs.Limits.{most_cells}
use Rattle.plan.specs.declared.Lettered.{Lettered}
use Rattle.records.specs.Apart.{records_in}
use Rattle.content.specs.Clean.{labels, entries}
use Rattle.outline_spec.specs.declared.Fault.{Fault}
use Rattle.outline_spec.specs.Understood.{Cells, faulty, cells, lines, understood}
use Rattle.compose.specs.Prefixed.{prefixed}
use Rattle.compose.specs.Meaning.{count, items_in, so_far, cells_in, meaning}
use Rattle.compose.specs.declared.Misread.{Misread}
use Rattle.compose.specs.declared.State.{State}
use Rattle.compose.specs.declared.Understanding.{Understanding}

unfoldable pub start_at : ℕ → State
start_at i =
    record {
      at = i;
      used = 0;
      levels = replicate most_cells 0;
      table = record {
        columns = record { count = 0; parent = replicate most_cells 0; kind = replicate most_cells 0; width = replicate most_cells 0; depth = replicate most_cells 0; rank = replicate most_cells 0 };
        label_length = replicate most_cells 0;
        label_start = replicate most_cells 0;
      };
    }

-- what the lines say: the cells so far, and those still to be read
unfoldable pub rest_of : (text letters : List ℕ) → State → Cells
rest_of text letters s = prefixed (so_far letters s) (cells (count s) (take (count s) s.levels) (lines (drop s.at text)))

-- the same after one line more; a fault is on the line after the first line and those of the n cells that were understood
unfoldable pub rest_in : (text letters : List ℕ) (n : ℕ) → Result State Fault → Cells
rest_in text letters n (Ok s) = rest_of text letters s
rest_in text letters n (Err f) = faulty (n + 2) f

-- arrays of 256
pub record Long (l : Lettered) : Type 0 where
  pub parents : length l.columns.parent ≡ 256
  pub kinds : length l.columns.kind ≡ 256
  pub widths : length l.columns.width ≡ 256
  pub depths : length l.columns.depth ≡ 256
  pub ranks : length l.columns.rank ≡ 256
  pub lengths : length l.label_length ≡ 256
  pub starts : length l.label_start ≡ 256

pub record Well (s : State) : Type 0 where
  pub few : count s ≤ most_cells
  pub brief : s.used ≤ 255 * count s
  pub within : (j : ℕ) → j < count s → get_or s.table.label_start j 0 + get_or s.table.label_length j 0 ≤ s.used
  pub long : Long s.table
  pub seen : length s.levels ≡ 256

-- the table is that of the clean copy of its items: labels back to back, in the order of the cells
pub record Tight (letters : List ℕ) (used : ℕ) (t : Lettered) : Type 0 where
  pub rows : records_in t ≡ entries 0 (items_in letters used t)
  pub bytes : take used letters ≡ labels (items_in letters used t)

pub record Turned (text letters : List ℕ) (s : State) (letters' : List ℕ) (r : Result State Fault) : Type 0 where
  pub same : rest_in text letters' (count s) r ≡ rest_of text letters s
  pub well : IfOk r (λ t. Well t)
  pub tight : Tight letters s.used s.table → IfOk r (λ t. Tight letters' t.used t.table)
  pub on : IfOk r (λ t. s.at < t.at)

-- all lines read
pub record Reads (text : List ℕ) (at : ℕ) (letters : List ℕ) (r : Result State Misread) : Type 0 where
  pub answers : cells_in letters r ≡ cells 0 [] (lines (drop at text))
  pub room : IfOk r (λ s. s.used ≤ 65536)
  pub tight : IfOk r (λ s. Tight letters s.used s.table)

-- the whole text read
pub record Understands (text letters : List ℕ) (r : Result Understanding Misread) : Type 0 where
  pub answers : meaning letters r ≡ understood text
  pub room : IfOk r (λ u. u.used ≤ 65536)
  pub tight : IfOk r (λ u. Tight letters u.used u.table)
