mod Reversed
