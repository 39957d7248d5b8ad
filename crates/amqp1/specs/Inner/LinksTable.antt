-- Part: inner.
-- How the links of all sessions of a client are told apart. Assumes nothing: this is a definition.
use Rattle.std.specs.Coded.{Coded, coded_ℕ}
use Rattle.std.specs.FinMap as map
use Rattle.amqp_endpoints.specs.contracts.endpoint.SessionEndpoint.{the_row}
use Rattle.amqp1.specs.OccupantView.{LinksTable}

abbrev pub links_table_code : Coded LinksTable
links_table_code = map.code coded_ℕ the_row.coded
