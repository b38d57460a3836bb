use Rattle.loading.proofs.Whole.{loads_appended}
use Rattle.loading.proofs.report.load_both.Goals as goal

pub returns : goal.returns
returns g c = (
  loads_appended (g.F.Filter.admitted c.add_all.new.filter) (g.G.Filter.admitted c.add_all-2.new.filter)
      (g.A.ColdStore.limit c.args.sorted.now) (g.B.ColdStore.limit c.args.blocks.now)
      (g.A.ColdStore.entries c.args.sorted.now) (g.B.ColdStore.entries c.args.blocks.now) c.args.records.now
      (g.A.ColdStore.entries c.load_all-in_sorted.new.store) (g.B.ColdStore.entries c.load_all-in_blocks.new.store)
      c.load_all-in_sorted.result c.load_all-in_blocks.result _ _ _ _
      c.load_all-in_sorted.ensures.after c.load_all-in_blocks.ensures.after
      c.load_all-in_sorted.ensures.count c.load_all-in_blocks.ensures.count
      c.in_ok-push_finds.ensures c.in_ok-push_loaded.ensures c.in_ok-push_next.ensures,
  c.add_all.ensures.has,
  c.add_all-2.ensures.has,
  c.load_all-in_sorted.ensures.after,
  c.load_all-in_blocks.ensures.after,
)
