-- The calls and their names.
use Rattle.std.specs.Prelude.{ℕ, cond, List, Some, None, codes, Option}
use Rattle.text.specs.Words.{same}
use Rattle.script.specs.declared.request.Kind.{Kind}
use Rattle.script.specs.declared.request.Kind.TheVariants as kind
use Rattle.script.specs.declared.request.Request.{Request}
use Rattle.script.specs.declared.request.Request.TheVariants as request

abbrev pub name_of : Kind → List ℕ
name_of kind.Begin = codes "begin"
name_of kind.Read = codes "read"
name_of kind.Put = codes "put"
name_of kind.Drop = codes "drop"
name_of kind.Commit = codes "commit"
name_of kind.Abandon = codes "abandon"
name_of kind.Choose = codes "choose"
name_of kind.Copy = codes "copy"
name_of kind.Settle = codes "settle"
name_of kind.GiveUp = codes "give-up"
name_of kind.Sweep = codes "sweep"
name_of kind.Collect = codes "collect"

-- the call whose name a text is
abbrev pub kind_named : List ℕ → Option Kind
kind_named name =
    cond (same name (codes "begin")) (Some kind.Begin)
    (cond (same name (codes "read")) (Some kind.Read)
    (cond (same name (codes "put")) (Some kind.Put)
    (cond (same name (codes "drop")) (Some kind.Drop)
    (cond (same name (codes "commit")) (Some kind.Commit)
    (cond (same name (codes "abandon")) (Some kind.Abandon)
    (cond (same name (codes "choose")) (Some kind.Choose)
    (cond (same name (codes "copy")) (Some kind.Copy)
    (cond (same name (codes "settle")) (Some kind.Settle)
    (cond (same name (codes "give-up")) (Some kind.GiveUp)
    (cond (same name (codes "sweep")) (Some kind.Sweep)
    (cond (same name (codes "collect")) (Some kind.Collect) None)))))))))))

-- the call that a request makes
abbrev pub kind_of : Request → Kind
kind_of (request.Begin s m) = kind.Begin
kind_of (request.Read s k) = kind.Read
kind_of (request.Put s k v) = kind.Put
kind_of (request.Drop s k) = kind.Drop
kind_of (request.Commit s) = kind.Commit
kind_of (request.Abandon s) = kind.Abandon
kind_of (request.Choose k) = kind.Choose
kind_of request.Copy = kind.Copy
kind_of request.Settle = kind.Settle
kind_of request.GiveUp = kind.GiveUp
kind_of request.Sweep = kind.Sweep
kind_of request.Collect = kind.Collect
