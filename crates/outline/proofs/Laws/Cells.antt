-- The loop over the cells: what it has written and which levels it has noted after c of them. Assumes nothing.
use Rattle.std.specs.Prelude.{◌≡◌, refl, List, [], ◌∷◌, ◌++◌, ℕ, zero, suc, ◌+◌, ◌-◌, ◌*◌, ◌≤◌, ◌<◌, length, take, drop, set, replicate}
use Rattle.std.proofs.Common.{◌∙◌, append_assoc, arith, add-one, length-append, length-drop, length-set, length-take-le, take-suc-set}
use Rattle.std.proofs.lemmas.List.{length-replicate}
use Rattle.plan.specs.Limits.{most_cells}
use Rattle.listing.specs.Printed.{decimal, line_feed}
use Rattle.listing.specs.Put.{Put}
use Rattle.listing.proofs.Laws.Put.{then, put-none}
use Rattle.plan.specs.Records.{bare}
use Rattle.plan.specs.declared.Record.{Record}
use Rattle.content.specs.Content.{Item, item_of, text_of}
use Rattle.outline_spec.specs.Outline.{allowance_word, level_under, cell_line, first_line}
use Rattle.outline_line.specs.Steps.{Room}
use Rattle.outline_line.proofs.Laws.Written.{put-length}
use Rattle.records.specs.Apart.{row_at}
use Rattle.plan.specs.declared.Lettered.{Lettered}
use Rattle.outline.specs.Steps.{item_at, levels_of, lines_of, Ready}

-- a label, as a slice
pub text-is : (letters : List ℕ) (r : Record) (start size : ℕ) → start ≡ r.label_start → size ≡ r.label_length → take (start + size - start) (drop start letters) ≡ text_of letters r
unfolding text_of
text-is letters r start size e f = let q : start + size - start ≡ size = omega arith in rw (q, f, e) refl

pub record Wrote (e : ℕ → Item) (before after : List ℕ) (begin at : ℕ) (levels : List ℕ) (c : ℕ) : Type 0 where
  pub long : length levels ≡ most_cells
  pub seen : take c levels ≡ levels_of e c
  pub text : Put before begin (lines_of e c) after at

pub wrote_none : (e : ℕ → Item) (a : List ℕ) (begin : ℕ) → Wrote e a a begin begin (replicate most_cells 0) 0
unfolding levels_of lines_of
wrote_none e a begin = record { long = length-replicate {A = ℕ} most_cells 0; seen = refl; text = put-none a begin }

pub wrote_more : {e : ℕ → Item} {a b d : List ℕ} {begin at next : ℕ} {levels : List ℕ} {c : ℕ} (level : ℕ) → Wrote e a b begin at levels c → c < most_cells → level ≡ level_under (take c levels) (e c).cell.parent
    → Put b at (cell_line (take c levels) (e c) ++ (line_feed ∷ [])) d next → Wrote e a d begin next (set levels c level) (c + 1)
unfolding levels_of lines_of
wrote_more {e} {a} {b} {d} {begin} {at} {next} {levels} {c} l w h q p =
    let s : take c levels ≡ levels_of e c = w.seen in
    record {
      long = length-set levels c l ∙ w.long;
      seen = rw (add-one, take-suc-set levels c l (omega (arith, w.long)), q, s) refl;
      text = rw add-one (then w.text (rw s at p));
    }

module _ (t : Lettered) (letters : List ℕ) (r : Ready t letters) where
  abbrev e : ℕ → Item
  e = item_at t letters

  pub lines_short : (c : ℕ) → c ≤ t.columns.count → length (lines_of e c) ≤ 256 * c
  unfolding lines_of
  lines_short zero h = omega arith
  lines_short (suc c) h =
      omega (
        arith,
        length-append (lines_of e c) (cell_line (levels_of e c) (e c) ++ (line_feed ∷ [])),
        length-append (cell_line (levels_of e c) (e c)) (line_feed ∷ []),
        lines_short c (omega arith),
        r.brief c (omega arith),
      )

  module _ {a b : List ℕ} {begin at : ℕ} {levels : List ℕ} (c : ℕ) (h : c < t.columns.count) (w : Wrote e a b begin at levels c) where
    lines_end : at ≤ begin + 256 * c
    lines_end = omega (arith, w.text.place, lines_short c (omega arith))

    text_size : length (text_of letters (row_at t c)) ≡ (row_at t c).label_length
    unfolding text_of
    text_size =
        let k : (row_at t c).label_length ≤ length (drop (row_at t c).label_start letters) = rw (length-drop (row_at t c).label_start letters) (omega (arith, r.within c h)) in
        length-take-le (row_at t c).label_length (drop (row_at t c).label_start letters) k

    wrote_low : (level : ℕ) → level ≡ level_under (take c levels) (row_at t c).parent → level ≤ 127
    wrote_low level q = let u : level ≡ level_under (levels_of e c) (row_at t c).parent = q ∙ rw w.seen refl in omega (arith, u, r.low c h)

    -- the next cell has room
    pub wrote_room : (level : ℕ) → begin + 66048 ≤ length a → level ≡ level_under (take c levels) (row_at t c).parent → Room (take c levels) level (row_at t c).parent (length (text_of letters (row_at t c))) (length b) at
    wrote_room level k q =
        record {
          level_is = q;
          low = wrote_low level q;
          short = rw text_size (r.short c h);
          room = omega (arith, lines_end, put-length w.text, r.few);
        }

    -- the next cell, as the code has it: its record, its parent and the level
    module _ (cell : Record) (level parent : ℕ) (x : cell ≡ row_at t c) (y : parent ≡ cell.parent) (q : level ≡ level_under (take c levels) parent) where
      pub low-next : level ≤ 127
      low-next = wrote_low level (q ∙ rw (y, x) refl)

      -- its label lies in the letters
      module _ (start size : ℕ) (u : start ≡ cell.label_start) (v : size ≡ cell.label_length) where
        pub room-next : begin + 66048 ≤ length a → Room (take c levels) level cell.parent (length (take (start + size - start) (drop start letters))) (length b) at
        room-next k = rw (text-is letters cell start size u v, x) (wrote_room level k (q ∙ rw (y, x) refl))

        pub wrote_next : {d : List ℕ} {next : ℕ} → Put b at (cell_line (take c levels) (record { cell = bare cell; text = take (start + size - start) (drop start letters) }) ++ (line_feed ∷ [])) d next → Wrote e a d begin next (set levels c level) (c + 1)
        unfolding item_of bare
        wrote_next p = wrote_more level w (omega (arith, r.few)) (q ∙ rw (y, x) refl) (rw (text-is letters cell start size u v, x) at p)

-- ---- the first line
pub first-put : {a b c d : List ℕ} {i j k : ℕ} (al : ℕ) → Put a 0 allowance_word b i → Put b i (decimal al) c j → Put c j (line_feed ∷ []) d k → Put a 0 (first_line al ++ (line_feed ∷ [])) d k
unfolding first_line
first-put al p q r = simp append_assoc (then p (then q r))
