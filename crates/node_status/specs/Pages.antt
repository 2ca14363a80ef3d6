-- What the caller of the pages sees of them.
use Rattle.std.specs.Prelude.{ℕ, Bool, Option, nat_eq, option_map}
use Rattle.indexmap.specs.IndexMap.{get}
use Rattle.http_server.specs.declared.connection.Connection.{Connection}
use Rattle.node_status.specs.declared.pages.Pages.{Pages}

-- the HTTP connection of this number, if it is open
abbrev pub connection_of : Pages → ℕ → Option Connection
connection_of pages id = option_map (λ visitor. visitor.connection) (get nat_eq pages.visitors id)

-- whether the node was asked to stop
abbrev pub has_stopped : Pages → Bool
has_stopped pages = pages.is_stopped
