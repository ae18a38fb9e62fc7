-- The book that no hall has.
use Rattle.logbook.specs.Pages.{Book}

abbrev pub no_book : Book
no_book = record { number = 0; log_name = 0; cells_name = 0 }
