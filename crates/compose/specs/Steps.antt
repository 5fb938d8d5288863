-- The reader as the code does it: line after line, and a cell more in the table. Nothing that a reader must believe stands here. Assumes nothing.
use Rattle.std.specs.Prelude.{[], ◌∷◌, cond, ℕ, suc, ◌+◌, ◌-◌, eqb, ltb, set}
use Rattle.listing.specs.Printed.{Bytes}
use Rattle.compose_line.specs.declared.Told.{Told}
use Rattle.plan.specs.declared.Record.{Record}
use Rattle.plan.specs.declared.Lettered.{Lettered}

-- ---- lines: the bytes before the first line feed
unfoldable pub line_long : Bytes → ℕ
line_long [] = 0
line_long (b ∷ bs) = let n = suc (line_long bs) in cond (eqb b 10) 0 n

-- the place after a line that ends here: behind its line feed, or the end of the text
unfoldable pub past_line : (size end : ℕ) → ℕ
past_line n e = cond (ltb e n) (e + 1) n

-- ---- the loop over the lines
-- a record of what a line tells, whose label begins at a place; and a table with one more
unfoldable pub record_from : Told → ℕ → Record
record_from t s =
    record { parent = t.parent; kind = t.kind; width = t.width; depth = t.depth; rank = t.rank; label_length = t.end - t.start; label_start = s }

unfoldable pub note : Lettered → ℕ → Record → Lettered
note l c r =
    record {
      columns = record {
        count = c + 1;
        parent = set l.columns.parent c r.parent;
        kind = set l.columns.kind c r.kind;
        width = set l.columns.width c r.width;
        depth = set l.columns.depth c r.depth;
        rank = set l.columns.rank c r.rank;
      };
      label_length = set l.label_length c r.label_length;
      label_start = set l.label_start c r.label_start;
    }
