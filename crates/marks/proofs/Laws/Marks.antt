-- Laws of the definitions in specs/Marks.antt. Assumes nothing.
use Rattle.std.specs.Prelude.{◌≡◌, List, ℕ, ◌*◌, ◌≤◌, length}
use Rattle.std.proofs.Common.{sym, arith}
use Rattle.plan.specs.Limits.{most_cells}
use Rattle.plan.proofs.Laws.Paths.{child_less}
use Rattle.plan.specs.Columns.{table_of}
use Rattle.plan.proofs.Laws.Tables.{length-is, width_is, depth_is}
use Rattle.plan.specs.declared.Columns.{Columns}
use Rattle.joining.specs.Joining.{memory_of}
use Rattle.links.specs.Links.{Links}
use Rattle.walk.specs.Machine.{chart}
use Rattle.walk.specs.Walked.{Suits, Walking, Walked}
use Rattle.walk.specs.Opened.{Visited}
use Rattle.marks.specs.Marks.{Markable, Marked, Toured}

-- the columns of a table are arrays of 256
pub record Long (t : Columns) : Type 0 where
  pub widths : most_cells ≤ length t.width
  pub depths : most_cells ≤ length t.depth

module _ (t : Columns) (tops : List ℕ) (al : ℕ) (xs ms : List ℕ) (h : Markable t tops xs ms) (long : Long t) where
  module _ (ls : List ℕ) (links : Links (table_of t) ls) (all : most_cells ≤ length tops) where
    suits : Suits (table_of t) (chart ls t.width t.depth tops al)
    suits =
        record {
          fit = h.fit;
          links = links;
          widths = long.widths;
          depths = long.depths;
          tops = all;
          wide_of = λ c i. sym (width_is t c (omega (arith, length-is t)));
          deep_of = λ c i. sym (depth_is t c (omega (arith, length-is t)));
          top_of = h.top_of;
        }

    pub walking : 4 * most_cells ≤ length ms → Walking (chart ls t.width t.depth tops al) xs ms
    walking l = record { table = table_of t; suits = suits; rows = h.scratch; clear = h.clear; marks = l; blank = h.blank }

    pub toured : {ys ns : List ℕ} → Visited (chart ls t.width t.depth tops al) (memory_of xs ms) (memory_of ys ns) → Toured (table_of t) (memory_of xs ms) (memory_of ys ns)
    toured v = record { columns = chart ls t.width t.depth tops al; suits = suits; visited = v }

    pub marked : (ys ns : List ℕ) → Walked (chart ls t.width t.depth tops al) xs ys ns → (ys ≡ xs) × Marked (table_of t) al ns
    marked ys ns w =
        let right = w.marked (table_of t) suits in (
          w.scratch,
          record {
            middle_of = λ c i. (right c i).middle_of;
            left_of = λ c i. (right c i).left_of;
            right_of = λ c i. (right c i).right_of;
            offset_of = λ f i s a. (right f (let (l, k) = child_less (table_of t) h.fit.sound f i s a in omega arith)).offset_of i s a;
            root_offset = w.root;
            near = w.low;
          },
        )
