-- What the calls that give a reason answer. Nothing that a reader must believe stands here. Assumes nothing.
use Rattle.std.specs.Prelude.{◌≡◌, refl, false, List, [], ℕ, zero, suc, ◌≤◌, ◌<◌, length, get_or, ℤ, pos, ◌≤ℤ◌, ◌<ℤ◌, Some, None, Ok}
use Rattle.std.proofs.Common.{sym, ap, ◌∙◌, arith}
use Rattle.plan.specs.Plan.{Table}
use Rattle.plan.specs.Fit.{Fit}
use Rattle.rules.specs.Placement.{Placement, placed, width}
use Rattle.rules.specs.Rules.{Keeps}
use Rattle.contours.specs.Sheet.{sheet}
use Rattle.plan.specs.declared.Measures.{Measures}
use Rattle.layout.proofs.Laws.Laid.{sheet-asks, sheet-wide}
use Rattle.why_spec.specs.Measures.{extent, across, Demanded}
use Rattle.why_spec.specs.Links.{Reason, Certifies}
use Rattle.why_spec.specs.Search.{reason}
use Rattle.why_spec.proofs.Theorems.{width_is, reason-least, reason-found, reason-fewest}
use Rattle.why_search.specs.Explains.{told, Explains, Explained}
use Rattle.why_search.specs.declared.Chain.{Chain}
use Rattle.why_search.specs.Stops.{steps}
use Rattle.why.specs.declared.Shown.{Shown}
use Rattle.why.specs.declared.Judged.TheVariants.{Kept}
use Rattle.why.specs.Shows.{Shows}
use Rattle.why.specs.Judges.{Judges}
use Rattle.why.proofs.Laws.Judges as judging

steps-length : (t : Table) (al : ℕ) (p : Placement) (f : ℕ → ℕ) (i d : ℕ) → length (steps t al p f i d) ≡ d
unfolding steps
steps-length t al p f i zero = refl
steps-length t al p f i (suc d) = ap suc (steps-length t al p f (suc i) d)

module _ (t : Table) (al : ℕ) (s s' : List ℕ) (ps ps' : List ℤ) (x : Shown) (r : Shows t al s s' ps ps' (Ok x)) where
  fit : Fit t
  fit = (sheet-asks t al s s' ps ps' x.measures r.lays).table.fit

  wide : extent (across t) (sheet t al) ≡ pos x.measures.width
  wide = width_is t (sheet t al) ∙ sym (sheet-wide t al s s' ps ps' x.measures r.lays)

  pub why_certifies : Certifies t al (across t) (pos x.measures.width) (told t al (placed ps') x.chain.count x.chain.cells)
  why_certifies =
      let e = wide in
      let q = (r.drawn x refl).0 in
      rw (e, q) at (reason-found t fit.some_cell fit.sound al (across t) Demanded.the_width)

  pub why-least : (p : Placement) → Keeps t p al → pos x.measures.width ≤ℤ width t p
  why-least p k = rw (width_is t p) at (reason-least t fit.some_cell fit.sound al p k (across t) (pos x.measures.width) _ why_certifies)

  pub why-fewest : (q : Reason) → Certifies t al (across t) (pos x.measures.width) q → x.chain.count ≤ length q.links
  why-fewest q c =
      let e = wide in
      let n : length (told t al (placed ps') x.chain.count x.chain.cells).links ≡ x.chain.count = steps-length t al (placed ps') (λ j. get_or x.chain.cells j 0) 0 x.chain.count in
      let m : reason t al (across t) (sheet t al) ≡ told t al (placed ps') x.chain.count x.chain.cells = (r.drawn x refl).0 in
      let l : length (reason t al (across t) (sheet t al)).links ≡ x.chain.count = ap (λ (y : Reason). length y.links) m ∙ n in
      omega (arith, l, reason-fewest t fit.some_cell fit.sound al (across t) Demanded.the_width q (rw e c))

  pub why_short : x.chain.count < length t
  why_short = (r.drawn x refl).1.short

unchained : (t : Table) (al : ℕ) (p : Placement) → Explained t al p None → Explains t al p false 0 [] []
unchained t al p e = record { yes = λ f. cc; no = λ f. e }

module _ (t : Table) (al : ℕ) (ps : List ℤ) (m : Measures) where
  pub judge-least : (c : Chain) → Judges t al ps (Ok (Kept m (Some c))) → Certifies t al (across t) (pos m.width) (told t al (placed ps) c.count c.cells) × (width t (sheet t al) ≡ pos m.width)
  judge-least c j = judging.judged_least t al ps m (sym j.checks) c.count c.cells c.rules (j.kept m (Some c) refl)

  pub judge_wider : Judges t al ps (Ok (Kept m None)) → width t (sheet t al) <ℤ pos m.width
  judge_wider j = judging.judged_wider t al ps m (sym j.checks) 0 [] [] (unchained t al (placed ps) (j.kept m None refl))
