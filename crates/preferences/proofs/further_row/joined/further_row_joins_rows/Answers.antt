use Rattle.preferences.proofs.FurtherRows.{joins_rows}
use Rattle.preferences.proofs.further_row.joined.further_row_joins_rows.Goals as goal

pub returns : goal.returns
returns c = joins_rows
