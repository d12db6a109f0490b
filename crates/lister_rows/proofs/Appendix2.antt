-- Appendix 2's listing: its bytes are its commands, since what is written is read back; what the rules say of these is F1; and the rows are computed.
use mathlib.Core.Path.{◌≡◌, refl}
use lib.ListN.{length}
use Rattle.energy.specs.Lists.{concat_map}
use Rattle.rules.specs.Examples.{appendix2, appendix2_file, ledger}
use Rattle.rules.proofs.Definitions.{opened}
use Rattle.rules.proofs.Figures.{figures}
use Rattle.rules.proofs.Appendix2.{appendix2-read}
use Rattle.lister_rows.specs.Rows.{digits_in, digits, signed_digits, fields_of, row, line_row, window_row, totals_row, window_rows, listing}
use Rattle.lister_rows.specs.Text.{text}
use Rattle.lister_rows.specs.Appendix2.{taken_of, listing_by, Appendix2}

ledgers : taken_of appendix2_file ≡ ledger appendix2
unfolding taken_of ledger
ledgers = rw appendix2-read

one_window : length (ledger appendix2).windows ≡ 1
unfolding opened ledger
one_window = refl

pub appendix2_rows : Appendix2
unfolding listing_by listing concat_map line_row window_rows window_row totals_row row fields_of signed_digits digits digits_in text
appendix2_rows =
    record {
      all_taken = rw appendix2-read figures.F1-taken;
      settled = rw ledgers figures.F1-settled;
      rows = rw (ledgers, figures.F1-lines, figures.F1-statement, one_window);
    }
