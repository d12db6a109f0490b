mod RaisedKw
pub mod Runs
