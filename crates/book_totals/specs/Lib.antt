pub mod KeptTotals
