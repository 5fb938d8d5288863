-- From what each function has to what it promises: for the code. Nothing that a reader must believe stands here. Assumes nothing.
use Rattle.std.specs.Prelude.{◌≡◌, true, false, List, ℕ, suc, ◌+◌, ◌≤◌, ◌<◌}
use Rattle.std.proofs.Math.Path.{ap}
use Rattle.std.proofs.Common.{arith, length-append}
use Rattle.std.proofs.Math.ListN.{length}
use Rattle.plan.specs.Limits.{most_cells}
use Rattle.plan.specs.declared.Record.{Record}
use Rattle.listing.specs.Printed.{mended_line}
use Rattle.listing.proofs.Laws.Printed.{at_most}
use Rattle.listing.specs.Line.{line_of, text}
use Rattle.listing.proofs.Laws.Line.{mended_line-is, line-text}
use Rattle.listing.specs.declared.Line.{Line}
use Rattle.listing.specs.Put.{Put}
use Rattle.listing.proofs.Laws.Put.{then, put-none}
use Rattle.mending_boxes.specs.Boxes.{new_width, new_depth, changed}
use Rattle.mending_lines.specs.Lines.{alteration_line}
use Rattle.mending_lines.specs.Steps.{line_room, alteration_text, alterations_text}

-- ---- lines
module _ (c : ℕ) (r : Record) {w d v e : ℕ} (hw : (w ≡ r.width) × (w < 65536)) (hd : (d ≡ r.depth) × (d < 256)) (hv : (v ≡ new_width r) × (v < 65536)) (he : (e ≡ new_depth r) × (e < 256)) where
  line_short : c < most_cells → length (mended_line c w d v e) ≤ line_room
  line_short h =
      rw (← mended_line-is c w d v e)
      (simp length-append (omega (arith, at_most 2 c (omega arith), at_most 4 w (omega (arith, hw.1)), at_most 2 d (omega (arith, hd.1)), at_most 4 v (omega (arith, hv.1)), at_most 2 e (omega (arith, he.1)))))

  module _ (l : Line) (q : l ≡ line_of (mended_line c w d v e)) (h : c < most_cells) where
    pub line-fits : l.length ≤ line_room
    unfolding line_of
    line-fits = rw q (line_short h)

    pub line-put : changed r ≡ true → {a b : List ℕ} {at k : ℕ} → Put a at (text l) b k → Put a at (alteration_text c r) b k × (k ≤ at + line_room)
    unfolding alteration_text alteration_line
    line-put ch {a} {b} {at} {k} p =
        let s : text l ≡ mended_line c w d v e = rw q (line-text (mended_line c w d v e)) in
        let t : text l ≡ mended_line c r.width r.depth (new_width r) (new_depth r) = rw (hw.0, hd.0, hv.0, he.0) at s in
        (rw (ch, ← t) p, omega (arith, p.place, ap length s, line_short h))

pub no-line-put : (c : ℕ) (r : Record) → changed r ≡ false → (a : List ℕ) (at : ℕ) → Put a at (alteration_text c r) a at × (at ≤ at + line_room)
unfolding alteration_text
no-line-put c r ch a at = (rw ch (put-none a at), omega arith)

pub lines_start : (e : ℕ → Record) (a : List ℕ) → Put a 0 (alterations_text e 0) a 0
unfolding alterations_text
lines_start e a = put-none a 0

pub lines_next : (e : ℕ → Record) (c : ℕ) {a b d : List ℕ} {j k : ℕ} {r : Record} → Put a 0 (alterations_text e c) b j → r ≡ e c → Put b j (alteration_text c r) d k → Put a 0 (alterations_text e (c + 1)) d k
unfolding alterations_text
lines_next e c p q u = let s : c + 1 ≡ suc c = omega arith in rw (s, ← q) (then p u)

pub lines_end : (e : ℕ → Record) (c n : ℕ) {a b : List ℕ} {j : ℕ} → Put a 0 (alterations_text e c) b j → c ≤ n → n ≤ c → Put a 0 (alterations_text e n) b j
lines_end e c n p h g = let s : c ≡ n = omega arith in rw s at p
