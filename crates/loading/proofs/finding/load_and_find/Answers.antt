use Rattle.loading.proofs.Finds.{again}
use Rattle.loading.proofs.finding.load_and_find.Goals as goal

pub returns : goal.returns
returns g c =
    let p = again (g.F.Filter.admitted c.add.new.self) (g.C.ColdStore.limit c.args.store.now) c.args.read.now.key.id
    c.args.tag c.number.result c.args.read.now.row (g.C.ColdStore.entries c.args.store.now)
    (g.C.ColdStore.entries c.load.new.store) c.find_row.result
    c.number.ensures c.add.ensures.has c.load.ensures.after c.find_row.ensures in
    record {
      value = p.1;
      after = c.load.ensures.after;
      limit = c.load.ensures.limit;
      has = p.0;
      keeps = c.add.ensures.keeps;
      again = p.2;
    }
