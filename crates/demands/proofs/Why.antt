-- THE KEY CARRIES ITS OWN PROOF, at the calls: statements only; each proof is one name. A reader needs of crate why_spec a link and when a rule gives it, a chain, what certifies a measure
-- (specs/Links.antt), the four measures of demand 3 (specs/Measures.antt) and THE reason (specs/Search.antt); of crate why what the two calls answer (Shows, Judges). Assumes nothing.
use Rattle.std.specs.Prelude.{◌≡◌, List, ℕ, ◌≤◌, ◌<◌, length, ℤ, pos, ◌+ℤ◌, ◌≤ℤ◌, ◌<ℤ◌, Some, None, Ok}
use Rattle.plan.specs.Plan.{Table, Sound}
use Rattle.rules.specs.Placement.{Placement, placed, width}
use Rattle.rules.specs.Rules.{S1, Keeps}
use Rattle.contours.specs.Sheet.{sheet}
use Rattle.plan.specs.declared.Measures.{Measures}
use Rattle.why_spec.specs.Measures.{Measure, extent, across, Demanded}
use Rattle.why_spec.specs.Links.{Link, Justified, Chain, adds_up, Reason, Certifies}
use Rattle.why_spec.specs.Search.{reason}
use Rattle.why_spec.proofs.Theorems as reasons
use Rattle.why_search.specs.Explains.{told}
use Rattle.why_search.specs.declared.Chain as chains
use Rattle.why.specs.declared.Shown.{Shown}
use Rattle.why.specs.declared.Judged.TheVariants.{Kept}
use Rattle.why.specs.Shows.{Shows}
use Rattle.why.specs.Judges.{Judges}
use Rattle.demands.proofs.Laws.Why as laws

-- ==== WHAT A REASON IS WORTH, of every table that has a cell (question 4) and whose parents have lower numbers (question 6), under every allowance
module _ (t : Table) (some_cell : 1 ≤ length t) (sound : Sound t) (al : ℕ) where
  -- The links say exactly what the rules say: each holds of every placement that keeps S1 to S5, of any size;
  pub link_true : (p : Placement) → Keeps t p al → (l : Link) → Justified t al l → (p.x l.from +ℤ l.apart) ≤ℤ p.x l.to
  link_true = reasons.link_true t some_cell sound al

  -- and a placement that keeps S1 and of which all hold keeps S1 to S5.
  pub links-enough : (p : Placement) → S1 t p → ((l : Link) → Justified t al l → (p.x l.from +ℤ l.apart) ≤ℤ p.x l.to) → Keeps t p al
  links-enough = reasons.links-enough t some_cell sound al

  -- The distances of a chain add up: whoever keeps the rules has its ends at least so far apart.
  pub chain_bounds : (p : Placement) → Keeps t p al → (c : ℕ) (ls : List Link) (e : ℕ) → Chain t al c ls e → (p.x c +ℤ adds_up ls) ≤ℤ p.x e
  chain_bounds = reasons.chain_bounds t some_cell sound al

  -- What certifies a measure certifies it: whoever keeps the rules measures at least as much.
  pub reason-least : (p : Placement) → Keeps t p al → (μ : Measure) (w : ℤ) (r : Reason) → Certifies t al μ w r → w ≤ℤ extent μ p
  reason-least = reasons.reason-least t some_cell sound al

  -- ALL OF DEMAND 3 WITH A PENCIL: of the width, of each subtree's extents to either side and of the distance of neighbouring siblings THE reason of our sheet certifies what our sheet measures;
  module _ (μ : Measure) (demanded : Demanded t μ) where
    pub reason-found : Certifies t al μ (extent μ (sheet t al)) (reason t al μ (sheet t al))
    reason-found = reasons.reason-found t some_cell sound al μ demanded

    -- no other that certifies it has fewer links,
    pub reason-fewest : (r : Reason) → Certifies t al μ (extent μ (sheet t al)) r → length (reason t al μ (sheet t al)).links ≤ length r.links
    reason-fewest = reasons.reason-fewest t some_cell sound al μ demanded

    -- and it has fewer than there are cells.
    pub reason_short : length (reason t al μ (sheet t al)).links < length t
    reason_short = reasons.reason_short t some_cell sound al μ demanded

-- ==== OUR SHEET AND ITS REASON: where `why` answers with a sheet, the cells that it gives are those of a reason
module _ (t : Table) (al : ℕ) (s s' : List ℕ) (ps ps' : List ℤ) (x : Shown) (r : Shows t al s s' ps ps' (Ok x)) where
  -- that certifies the width that it answers, from the table alone,
  pub why_certifies : Certifies t al (across t) (pos x.measures.width) (told t al (placed ps') x.chain.count x.chain.cells)
  why_certifies = laws.why_certifies t al s s' ps ps' x r

  -- so that no placement that keeps the rules is narrower,
  pub why-least : (p : Placement) → Keeps t p al → pos x.measures.width ≤ℤ width t p
  why-least = laws.why-least t al s s' ps ps' x r

  -- with the fewest links that there can be, fewer than there are cells.
  pub why-fewest : (q : Reason) → Certifies t al (across t) (pos x.measures.width) q → x.chain.count ≤ length q.links
  why-fewest = laws.why-fewest t al s s' ps ps' x r

  pub why_short : x.chain.count < length t
  why_short = laws.why_short t al s s' ps ps' x r

-- ==== ANYONE'S PLACEMENT that Check accepts, with its width and rows m
module _ (t : Table) (al : ℕ) (ps : List ℤ) (m : Measures) where
  -- with a reason: it certifies the width, and our sheet is as wide;
  pub judge-least : (c : chains.Chain) → Judges t al ps (Ok (Kept m (Some c))) → Certifies t al (across t) (pos m.width) (told t al (placed ps) c.count c.cells) × (width t (sheet t al) ≡ pos m.width)
  judge-least = laws.judge-least t al ps m

  -- without: our sheet is narrower.
  pub judge_wider : Judges t al ps (Ok (Kept m None)) → width t (sheet t al) <ℤ pos m.width
  judge_wider = laws.judge_wider t al ps m
