-- The definitions that most callers import, in one module. Types and variants that Rust declares,
-- such as `HasArg` and `Yes`, have to be imported from their own modules.
pub use Rattle.getopts.specs.Names.{Text, texts}
pub use Rattle.getopts.specs.Options.{Declared, Declares, Group, group_of, is_named, with_groups}
pub use Rattle.getopts.specs.Declaring.{optflag, optflagmulti, optflagopt, optmulti, optopt}
pub use Rattle.getopts.specs.Declaring.{options_of, reqopt}
pub use Rattle.getopts.specs.Fail.{Fault, IsOutOfMemoryOr, fail_text, fault_of}
pub use Rattle.getopts.specs.Fail.{argument_missing, unrecognized_option, option_missing}
pub use Rattle.getopts.specs.Fail.{option_duplicated, unexpected_argument}
pub use Rattle.getopts.specs.Matches.{Matched}
pub use Rattle.getopts.specs.Accessors.{IsDefined, IsParsedAs, IsParsedOr, first_value, first_value_or}
pub use Rattle.getopts.specs.Accessors.{borrowed_given, borrowed_group, occurrences_of_name}
pub use Rattle.getopts.specs.Accessors.{is_present, values_of}
pub use Rattle.getopts.specs.Reading.{Given, option, free_word}
pub use Rattle.getopts.specs.Reader.{Left, Trace, fails, gives, left_in, no_more, order_in, size_of}
pub use Rattle.getopts.specs.Reader.{trace, whole}
pub use Rattle.getopts.specs.Results.{order_or_error, parse_ignoring_counts_result, parse_in_order_result}
pub use Rattle.getopts.specs.Results.{parse_result}
pub use Rattle.getopts.specs.Parse.{EndsInTrailing, FitOptions, FitOptionsAndCounts}
pub use Rattle.getopts.specs.Parse.{EndsInFreeWords, ReturnsResult}
pub use Rattle.getopts.specs.UsageResults.{usage_result}
