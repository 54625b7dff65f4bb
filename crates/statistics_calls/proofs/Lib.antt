pub mod KeySteps
