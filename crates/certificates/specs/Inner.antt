-- What only inner contracts cite.
pub mod Totals
