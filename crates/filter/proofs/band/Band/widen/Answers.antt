use Rattle.std.proofs.Common.{◌≡◌, ℕ, ◌%◌, ◌<◌, min, max, List, length, set, sym, ap, ◌∙◌, rules}
use Rattle.std.proofs.lemmas.List.{map-set, get_or-map, length-map}
use Rattle.filter.specs.Band.{lows, highs, in_band}
use Rattle.filter.specs.declared.band.Ends.{Ends}
use Rattle.filter.proofs.Widen.{band_with}
use Rattle.filter.proofs.band.Band.widen.Goals as goal

both : (h : ℕ) {a b x y : List ℕ} → x ≡ a → y ≡ b → in_band x y h ≡ in_band a b h
both h {a} {b} {x} {y} e f = ap (λ l. in_band l y h) e ∙ ap (λ l. in_band a l h) f

pub returns : goal.returns
returns c =
    let es = c.args.self.now.ends in
    let i = c.args.number % 64 in
    let l : c.args.number % 64 < length c.args.self.now.ends = search rules in
    let low = c.min.ensures ∙ ap (λ x. min x c.args.number) (sym (get_or-map (λ (e : Ends). e.low) es i _ 0 l)) in
    let high = c.max.ensures ∙ ap (λ x. max x c.args.number) (sym (get_or-map (λ (e : Ends). e.high) es i _ 0 l)) in
    let e = map-set (λ (e : Ends). e.low) es i _ ∙ ap (set (lows es) i) low in
    let f = map-set (λ (e : Ends). e.high) es i _ ∙ ap (set (highs es) i) high in
    record {
      lows = e;
      highs = f;
      admitted = λ h. both h e f ∙ band_with (lows es) (highs es) c.args.number (rw (length-map es (λ (e : Ends). e.low)) l) (rw (length-map es (λ (e : Ends). e.high)) l) h;
    }
