-- A table that refusal 12 does not apply to, with its rows lent, as a table.
--
--   table_of f   that table
--   Ready t s    a decoder's memory that neither 13 nor 14 refuses: what a step finds in it before it looks at the block
use Rattle.std.specs.Prelude.{◌≡◌, false, List, ℕ, length}
use Rattle.tables.specs.declared.table.Table.{Table}
use Rattle.tables.specs.Table.{table}
use Rattle.link.specs.declared.fit.FitTable.{FitTable}
use Rattle.link.specs.Memory.{decoder_words}
use Rattle.link.specs.Refusals.{decoder_malformed}

abbrev pub table_of : FitTable → Table
table_of f = table f.symbols f.span f.depth f.rows.now

pub record Ready (t : Table) (s : List ℕ) : Type 0 where
  pub size : length s ≡ decoder_words t
  pub formed : decoder_malformed t s ≡ false
