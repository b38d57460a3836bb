-- A lookup's answer: the row, its place, and how many finds it took.
use Rattle.std.specs.Prelude.{ℕ, Some, None, Option}
use Rattle.rules.specs.Looking as rule
use Rattle.scan.specs.declared.looked.Place.TheVariants.{Hot, Cold}
use Rattle.scan.specs.declared.looked.Seen.{Seen}
use Rattle.scan.specs.declared.looked.Looked.{Looked}

-- the version with its place, where a hot row stands at i
abbrev pub seen_at : {K R : Type 0} → ℕ → rule.Seen K R → Option (Seen R)
seen_at i (rule.hot_one h) = Some (record { row = h.row; place = Hot i })
seen_at i (rule.cold_one c) = Some (record { row = c.row; place = Cold c.tag })
seen_at i rule.nothing = None

abbrev pub looked_at : {K R : Type 0} → ℕ → rule.Looked K R → Looked R
looked_at i l = record { seen = seen_at i l.seen; finds = l.finds }
